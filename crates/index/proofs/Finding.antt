-- How the code looks at records and marks, and how it looks up.
use Rattle.std.specs.Prelude.{◌+◌, ◌-◌, ◌/◌, ◌≤◌, ◌<◌, ◌≡◌, Option, Some, None, Ok, Err}
use Rattle.wire.proofs.Kit.{ℕ, zero, suc, refl, sym, ap, ◌∙◌, List, [], Bool, true, false, sub-one, arith, length, get_or, lt-ltb}
use Rattle.wire.proofs.Kit.{le-ltb, eq-eqb, ne_eqb}
use Rattle.wire.specs.declared.cursor.Cursor.{Cursor}
use Rattle.std.specs.Bool.{then_some}
use Rattle.std.specs.Result.{result_ok}
use Rattle.index.proofs.Rows.{clash}
use Rattle.wire.specs.Field.{Parsed, u8_at, u16_at, got_to}
use Rattle.wire.specs.Answer.{Verdict}
use Rattle.wire.specs.declared.cursor.Span.{Span}
use Rattle.wire.specs.Text.{inside_of, part_of}
use Rattle.image.specs.declared.record.Record.{Record}
use Rattle.image.specs.declared.record.Record.TheVariants as R
use Rattle.image.specs.Record.{layout_of}
use Rattle.image.specs.Taking.{Taken, short, short_at, body_at, record_at}
use Rattle.image.proofs.Found.{found_kind}
use Rattle.amf0.proofs.Begun.{record_body, record_none}
use Rattle.amf0.proofs.Putting.{known_bytes}
use Rattle.index.specs.declared.mark.Mark.{Mark}
use Rattle.index.specs.Mark.{nothing}
use Rattle.index.specs.Keys.{role_of, role_in, role_at}
use Rattle.index.specs.Order.{text_by, key_of}
use Rattle.index.specs.Find.{past_of, leads_of, upper_of, last_of, step_of, thence, down_of}

-- ---- a key's text

module _ (image text : List ℕ) (at : ℕ) where
  pub key_none : (r : Verdict) → u8_at image at ≡ Err r → key_of image text at ≡ []
  unfolding key_of role_at
  key_none r e = rw (record_none image at r.answer r.place e)

  module _ (kind : ℕ) (d : Cursor) (e : u8_at image at ≡ got_to kind d) where
    pub key_there : kind ≡ 0x20 → (t : Span) (c : Cursor) → short_at image d.at ≡ got_to t c → key_of image text at ≡ part_of text t.place t.length
    unfolding key_of role_at body_at short
    key_there k t c f = rw (record_body image at kind d e, k, f)

    pub key_cut : kind ≡ 0x20 → (r : Verdict) → short_at image d.at ≡ Err r → key_of image text at ≡ []
    unfolding key_of role_at body_at short
    key_cut k r f = rw (record_body image at kind d e, k, f)

    other : (r : Record) → ((layout_of r).kind ≡ 0x20 → ⊥) → text_by text (role_of r) ≡ []
    other (R.Number n) h = refl
    other (R.Boolean b) h = refl
    other (R.Text p n) h = refl
    other R.Object h = refl
    other R.Null h = refl
    other R.Undefined h = refl
    other (R.Reference n) h = refl
    other (R.EcmaArray n) h = refl
    other R.ObjectEnd h = refl
    other (R.StrictArray n) h = refl
    other (R.Date n present zone) h = refl
    other R.Unsupported h = refl
    other (R.Xml p n) h = refl
    other (R.TypedObject p n) h = refl
    other (R.Key p n) h = absurd (h refl)
    other (R.Packet h m) g = refl
    other (R.Header p n f) h = refl
    other (R.Message p n q m) h = refl
    other (R.Lso l p n) h = refl

    pub key_other : ((i : ℕ) → get_or image i 0 < 256) → (kind ≡ 0x20 → ⊥) → key_of image text at ≡ []
    unfolding key_of role_at
    key_other b k = go (record_at image at) refl
      where
        go : (t : Taken) → record_at image at ≡ t → text_by text (role_in t) ≡ []
        go None f = refl
        go (Some x) f = other x.0 (λ q. k (found_kind image (known_bytes image b) at x.0 x.1 f kind d e ∙ q))

-- ---- by halves

module _ (past : Mark → Bool) (marks : List Mark) where
  pub upper_done : (f low high : ℕ) → high ≤ low → upper_of past marks f low high ≡ low
  unfolding upper_of
  upper_done zero low high h = refl
  upper_done (suc f) low high h = rw (le-ltb low high h)

  module _ (low high : ℕ) (h : low < high) where
    pub upper_left : (f : ℕ) → high ≤ low + f → past (get_or marks ((low + high) / 2) nothing) ≡ true
        → upper_of past marks f low high ≡ upper_of past marks (f - 1) low ((low + high) / 2)
    unfolding upper_of
    upper_left zero g p = absurd (omega arith)
    upper_left (suc f) g p = rw (lt-ltb low high h, p, sub-one (suc f))

    pub upper_right : (f : ℕ) → high ≤ low + f → past (get_or marks ((low + high) / 2) nothing) ≡ false
        → upper_of past marks f low high ≡ upper_of past marks (f - 1) ((low + high) / 2 + 1) high
    unfolding upper_of
    upper_right zero g p = absurd (omega arith)
    upper_right (suc f) g p = rw (lt-ltb low high h, p, sub-one (suc f))

module _ (image text : List ℕ) (marks : List Mark) (container : ℕ) (key : List ℕ) (count n : ℕ) (size : length marks ≡ count)
    (at_n : n ≡ upper_of (past_of image text container key) marks count 0 count) where
  pub last_none : n ≡ 0 → None ≡ last_of image text marks container key
  unfolding last_of
  last_none z = rw (size, ← at_n, eq-eqb n 0 z)

  pub last_some : (n ≡ 0 → ⊥) → (m : Mark) → m ≡ get_or marks (n - 1) nothing → (t : Bool) → t ≡ leads_of image text container key m
      → then_some t m.value ≡ last_of image text marks container key
  unfolding last_of
  last_some z m at_m t at_t = rw (size, ← at_n, ne_eqb n 0 z, at_t, at_m)

-- ---- a path

-- a field that was refused
pub record Lost {A : Type 0} (x : Parsed A) : Type 0 where
  pub reason : Verdict
  pub is : x ≡ Err reason

-- what was read, where what was refused is let go
module _ {A : Type 0} {x y : Parsed A} {o : Option (A × Cursor)} (e : x ≡ y) (f : o ≡ result_ok x) where
  pub read_ok : {v : A × Cursor} → o ≡ Some v → y ≡ Ok v
  read_ok {v} g = sym e ∙ go x (sym f ∙ g)
    where
      go : (z : Parsed A) → result_ok z ≡ Some v → z ≡ Ok v
      go (Ok w) h = ap Ok (cc)
      go (Err r) h = absurd (clash (cc))

  pub read_err : o ≡ None → Lost y
  read_err g = rw e at (go x (sym f ∙ g))
    where
      go : (z : Parsed A) → result_ok z ≡ None → Lost z
      go (Ok w) h = absurd (clash (cc))
      go (Err r) h = record { reason = r; is = refl }

module _ (image text : List ℕ) (marks : List Mark) (path : List ℕ) (i place : ℕ) where
  pub down_done : (f : ℕ) → length path ≤ i → down_of image text marks path f i place ≡ Some place
  unfolding down_of
  down_done zero h = refl
  down_done (suc f) h = rw (le-ltb i (length path) h)

  module _ (h : i < length path) where
    pub down_short : (f : ℕ) → length path ≤ i + f → Lost (u16_at path i) → down_of image text marks path f i place ≡ None
    unfolding down_of
    down_short zero g e = absurd (omega arith)
    down_short (suc f) g e = rw (lt-ltb i (length path) h, e.is)

    module _ (n : ℕ) (d : Cursor) (e : u16_at path i ≡ got_to n d) where
      pub down_over : (f : ℕ) → length path ≤ i + f → inside_of path d.at n ≡ false → down_of image text marks path f i place ≡ None
      unfolding down_of
      down_over zero g t = absurd (omega arith)
      down_over (suc f) g t = rw (lt-ltb i (length path) h, e, t)

      pub down_goes : inside_of path d.at n ≡ true → (f : ℕ) → length path ≤ i + f → (w : Option ℕ) → step_of image text marks place (part_of path d.at n) ≡ w
          → down_of image text marks path f i place ≡ thence image text marks w (down_of image text marks path (f - 1) (d.at + n))
      unfolding down_of
      down_goes t zero g w s = absurd (omega arith)
      down_goes t (suc f) g w s = rw (lt-ltb i (length path) h, e, s, t, sub-one (suc f))

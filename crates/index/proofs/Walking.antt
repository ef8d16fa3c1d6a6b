-- How the code goes over an image.
use Rattle.std.specs.Prelude.{◌+◌, ◌-◌, ◌*◌, ◌≤◌, ◌<◌, ◌≡◌, Option, Some, None}
use Rattle.wire.proofs.Kit.{ℕ, zero, suc, refl, ap, List, Bool, true, false, sub-one, arith, leb, eqb, length, get_or}
use Rattle.wire.specs.Choice.{pick}
use Rattle.wire.specs.Field.{to}
use Rattle.wire.specs.declared.cursor.Cursor.{Cursor}
use Rattle.wire.proofs.Laws.{picked}
use Rattle.wire.proofs.Same.{ok_first, ok_second, some_first}
use Rattle.image.specs.Taking.{Taken, record_at}
use Rattle.image.specs.Due.{went_to}
use Rattle.wire.specs.Answer.{denied}
use Rattle.image.specs.Out.{Out, end, stop, put, ◌>>=◌, named_at, pour}
use Rattle.wire.specs.Bytes.{laid}
use Rattle.index.specs.declared.mark.Mark.{Mark}
use Rattle.amf0.specs.Writing.{value_at}
use Rattle.amf0.proofs.Putting.{past, Past}
use Rattle.index.specs.declared.walk.Rest.{Rest}
use Rattle.index.specs.declared.walk.Rest.TheVariants.{Nothing, Pairs, Dense, Body, Values}
use Rattle.index.specs.declared.walk.Role.{Role}
use Rattle.index.specs.declared.walk.Coming.{Coming}
use Rattle.index.specs.Mark.{mark, mark_bytes}
use Rattle.index.specs.Keys.{role_of, begun_to, own_by, own_in, key_by, key_in, own_of, pair_at, turn_of, rest, value}
use Rattle.index.specs.Code.{Onward}

-- ---- how far a record goes

clash : ◌≡◌ {A = ℕ} 0 1 → ⊥
clash e = omega arith

module _ (image text : List ℕ) (h : (i : ℕ) → get_or image i 0 < 256) (at : ℕ) where
  -- a value's record takes bytes
  pub own_past : {c : Cursor} {f : Rest} → own_of image text at ≡ begun_to c f → Past image at c
  unfolding own_of
  own_past {c} {f} e = go (record_at image at) refl e
    where
      by : (x : Role) (d : Cursor) → own_by text x d ≡ begun_to c f → d ≡ c
      by (Role.Value p n g) d =
          picked (λ y. y ≡ begun_to c f → d ≡ c) (named_at text p n) _ _ (λ _ e. some_first e) (λ _ e. absurd (clash (cc)))
      by (Role.Key p n) d = λ e. absurd (clash (cc))
      by (Role.File p n) d = λ e. absurd (clash (cc))
      by Role.End d = λ e. absurd (clash (cc))
      by Role.Other d = λ e. absurd (clash (cc))

      go : (t : Taken) → record_at image at ≡ t → own_in text t ≡ begun_to c f → Past image at c
      go (Some x) g e = rw (by (role_of x.0) x.1 e) at (past image h at {r = x.0} {c = x.1} g)
      go None g e = absurd (clash (cc))

  -- what a key's record or the end's comes to
  abbrev Taking : Option Coming → Type 0
  Taking (Some (Coming.Done c)) = Past image at c
  Taking (Some (Coming.Value c f)) = ⊥
  Taking (Some (Coming.Key c f)) = Past image at c
  Taking None = Unit {0}

  pair_past : (due : Rest) (ends : Bool) → Taking (pair_at image text due ends at)
  unfolding pair_at
  pair_past due ends = go (record_at image at) refl
    where
      by : (x : Role) (d : Cursor) → Past image at d → Taking (key_by text due ends x d)
      by (Role.Value p n g) d s = tt
      by (Role.Key p n) d s = picked Taking (named_at text p n) _ _ (λ _. s) (λ _. tt)
      by (Role.File p n) d s = tt
      by Role.End d s = picked Taking ends _ _ (λ _. s) (λ _. tt)
      by Role.Other d s = tt

      go : (t : Taken) → record_at image at ≡ t → Taking (key_in text due ends t)
      go (Some x) g = by (role_of x.0) x.1 (past image h at {r = x.0} {c = x.1} g)
      go None g = tt

  -- where a turn leaves the cursor
  abbrev pub Reached : Option Coming → Type 0
  Reached (Some (Coming.Done c)) = (at ≤ c.at) × (c.at ≤ length image)
  Reached (Some (Coming.Value c f)) = (c.at ≡ at)
  Reached (Some (Coming.Key c f)) = (at + 1 ≤ c.at) × (c.at ≤ length image)
  Reached None = Unit {0}

  reached : (x : Option Coming) → Taking x → Reached x
  reached (Some (Coming.Done c)) s = (omega arith, s.fits)
  reached (Some (Coming.Value c f)) s = absurd s
  reached (Some (Coming.Key c f)) s = (s.from, s.fits)
  reached None s = tt

  pair_reached : (due : Rest) (ends : Bool) → Reached (pair_at image text due ends at)
  pair_reached due ends = reached (pair_at image text due ends at) (pair_past due ends)

  pub turn_reached : (due : Rest) → at ≤ length image → Reached (turn_of image text due at)
  unfolding turn_of
  turn_reached Nothing l = (omega arith, l)
  turn_reached (Values n) l = picked Reached (eqb n 0) (Some (Coming.Done (to at))) (Some (Coming.Value (to at) (Values (n - 1)))) (λ _. (omega arith, l)) (λ _. refl)
  turn_reached Dense l = picked Reached (value_at image at) (Some (Coming.Value (to at) Dense)) (pair_at image text Pairs true at) (λ _. refl) (λ _. pair_reached Pairs true)
  turn_reached Pairs l = pair_reached Pairs true
  turn_reached Body l = picked Reached (leb (length image) at) (Some (Coming.Done (to at))) (pair_at image text Body false at) (λ _. (omega arith, l)) (λ _. pair_reached Body false)

-- ---- the turns

module _ (inner : ℕ → Out) (image text : List ℕ) (place depth : ℕ) (due : Rest) (at : ℕ) where
  pub rest_stops : (f : ℕ) → turn_of image text due at ≡ None → rest inner image text place depth f due at ≡ stop 6 at
  unfolding rest
  rest_stops zero e = refl
  rest_stops (suc f) e = rw e

  pub rest_ends : (f : ℕ) → 0 < f → (c : Cursor) → turn_of image text due at ≡ Some (Coming.Done c) → rest inner image text place depth f due at ≡ end c.at
  unfolding rest
  rest_ends zero h c e = absurd (omega arith)
  rest_ends (suc f) h c e = rw e

  pub rest_value : (f : ℕ) → 0 < f → (c : Cursor) (g : Rest) → turn_of image text due at ≡ Some (Coming.Value c g)
      → rest inner image text place depth f due at ≡ inner c.at >>= rest inner image text place depth (f - 1) g
  unfolding rest
  rest_value zero h c g e = absurd (omega arith)
  rest_value (suc f) h c g e = rw (e, sub-one (suc f))

  pub rest_key : (f : ℕ) → 0 < f → (c : Cursor) (g : Rest) → turn_of image text due at ≡ Some (Coming.Key c g)
      → rest inner image text place depth f due at ≡ put (mark_bytes (mark depth place at c.at)) (inner c.at >>= rest inner image text place depth (f - 1) g)
  unfolding rest
  rest_key zero h c g e = absurd (omega arith)
  rest_key (suc f) h c g e = rw (e, sub-one (suc f))

module _ (image text : List ℕ) (at : ℕ) where
  pub value_none : (left : ℕ) → left ≡ 0 → (t : Bool) → value_at image at ≡ t → value left image text at ≡ stop (pick t 5 6) at
  unfolding value
  value_none zero z t e = rw e
  value_none (suc left) z t e = absurd (omega arith)

  module _ (left : ℕ) (some : left ≡ 0 → ⊥) where
    pub value_stops : own_of image text at ≡ None → value left image text at ≡ stop 6 at
    unfolding value
    value_stops e = go left some
      where
        go : (l : ℕ) → (l ≡ 0 → ⊥) → value l image text at ≡ stop 6 at
        go zero z = absurd (z refl)
        go (suc l) z = rw e

    pub value_goes : (c : Cursor) (f : Rest) → own_of image text at ≡ begun_to c f
        → value left image text at ≡ rest (value (left - 1) image text) image text at (33 - (left - 1)) (suc (length image)) f c.at
    unfolding value
    value_goes c f e = go left some
      where
        go : (l : ℕ) → (l ≡ 0 → ⊥) → value l image text at ≡ rest (value (l - 1) image text) image text at (33 - (l - 1)) (suc (length image)) f c.at
        go zero z = absurd (z refl)
        go (suc l) z = rw (e, sub-one (suc l))

-- ---- how far a step goes

pub onward_stop : {a p low high count : ℕ} → Onward (denied a p) low high count
onward_stop = record { bounds = λ c n e. absurd (clash (cc)) }

pub onward_next : {c : Cursor} {n low high count : ℕ} → low ≤ c.at → c.at ≤ high → n + 13 * low ≤ count + 13 * c.at → Onward (went_to c n) low high count
onward_next {c} {n} l h b =
    record { bounds = λ d m e. let f = ap (λ (x : Cursor). x.at) (ok_first e) in let g = ok_second e in (omega arith, omega arith, omega arith) }

-- ---- a mark put out

pub pour_mark : (e : Mark) (d : Out) (count : ℕ) (out : List ℕ) → pour (put (mark_bytes e) d) count out ≡ pour d (count + 13) (laid (mark_bytes e) count out)
unfolding pour
pour_mark e d count out = refl

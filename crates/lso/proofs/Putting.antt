-- The laws of writing a file, step by step, and of its length, which its first pass tells: that the functions' proofs cite.
use Rattle.std.specs.Prelude.{◌+◌, ◌-◌, ◌≤◌, ◌<◌, ◌≡◌}
use Rattle.wire.proofs.Kit.{ℕ, zero, suc, refl, sym, ap, ◌∙◌, List, [], Bool, true, false, sub-one, arith, length, get_or}
use Rattle.wire.specs.Choice.{pick}
use Rattle.wire.specs.Bytes.{laid}
use Rattle.wire.specs.Limit as limit
use Rattle.wire.specs.Field.{u8_at, got_to}
use Rattle.wire.specs.declared.cursor.Cursor.{Cursor}
use Rattle.wire.proofs.Laws.{pick_yes, pick_no, picked, laid_none}
use Rattle.image.specs.declared.record.Layout.{Layout}
use Rattle.image.specs.declared.writing.Row.{Row}
use Rattle.image.specs.Kind as kind
use Rattle.image.specs.Out.{Out, end, stop, put, ◌>>=◌, row_bytes, named_of, row, Poured, poured, pour, bytes as bytes_out, settled, written, unwritten}
use Rattle.image.proofs.Pouring.{Inside, inside, length_row, row_bind, went, settled_halt, settled_over, settled_full, settled_fits}
use Rattle.amf0.specs.Writing.{top_value, asked}
use Rattle.amf0.proofs.Putting.{asked_both, asked_none}
use Rattle.lso.specs.Code.{key_of}
use Rattle.lso.specs.Writing.{opening, naming, closing, keying, zero_byte, header, element, body, file, length_of, write_of}
use Rattle.wire.specs.Answer.{denied}
use Rattle.image.specs.Due.{went_to}

-- ---- an element

-- a value and a zero
abbrev pub padded : List ℕ → List ℕ → ℕ → ℕ → Out
padded image text at q = top_value image text q >>= λ e. row text zero_byte at (end e)

module _ (image text : List ℕ) (at : ℕ) where
  -- a key's record, and what follows it
  abbrev keyed : (ℕ → Out) → Layout → ℕ → Out
  keyed k l q = row text (keying l.a.number l.b.number) at (k q)

  -- it is its key, and then its value and the zero
  pub element_key : element image text at ≡ key_of image text at >>= padded image text at
  unfolding element
  element_key =
      asked_both image kind.key at (λ x y. x ≡ y >>= padded image text at) (keyed (padded image text at)) (keyed end) refl
      λ l q. row_bind text (keying l.a.number l.b.number) at q (padded image text at)

  -- a record of another kind is no key
  pub key_other : ((i : ℕ) → get_or image i 0 < 256) → (k : ℕ) (d : Cursor) → u8_at image at ≡ got_to k d → (k ≡ kind.key → ⊥) → key_of image text at ≡ stop 6 at
  key_other h = asked_none image kind.key at (keyed end) h

  -- ---- elements

  pub body_done : (fuel : ℕ) → length image ≤ at → body image text fuel at ≡ end at
  unfolding body
  body_done zero h = refl
  body_done (suc fuel) h = pick_yes (length image) at _ _ h

  pub body_more : (fuel : ℕ) → 0 < fuel → at < length image → body image text fuel at ≡ element image text at >>= body image text (fuel - 1)
  unfolding body
  body_more zero f h = absurd (omega arith)
  body_more (suc fuel) f h = rw (sub-one (suc fuel)) (pick_no (length image) at _ _ h)

-- ---- the file

bound : (t : Bool) (b : List ℕ) (d e : Out) (k : ℕ → Out) → d ≡ e >>= k → pick t (put b d) (stop 6 0) ≡ pick t (put b e) (stop 6 0) >>= k
bound true b d e k h = ap (put b) h
bound false b d e k h = refl

row_bound : (text : List ℕ) (r : Row) (d e : Out) (k : ℕ → Out) → d ≡ e >>= k → row text r 0 d ≡ row text r 0 e >>= k
unfolding row
row_bound text r d e k h = bound (named_of text r) (row_bytes text r) d e k h

-- the header, and what follows it
pub header_bind : (s : ℕ) (text : List ℕ) (p n q : ℕ) (k : ℕ → Out) → header s text p n (k q) ≡ header s text p n (end q) >>= k
header_bind s text p n q k =
    row_bound text (opening s) _ _ k (row_bound text (naming p n) _ _ k (row_bound text closing _ _ k refl))

module _ (says : ℕ → ℕ → ℕ) (image text : List ℕ) where
  -- a file from its record on, and the place behind it
  abbrev pub filing : Layout → ℕ → Out
  filing l q =
      header (says l.c.number (length (bytes_out (body image text (length image) q)))) text l.b.number l.c.number (body image text (length image) q)

  pub file_asked : file says image text ≡ asked image kind.lso 0 filing
  unfolding file
  file_asked = refl

-- ---- a length that is not known yet

-- on no output, bytes are as many as others
blank : (t : Bool) (x y : List ℕ) (d : Out) → length x ≡ length y → 0 < length x → pour (pick t (put x d) (stop 6 0)) 0 [] ≡ pour (pick t (put y d) (stop 6 0)) 0 []
unfolding pour
blank true x y d e h =
    ap (λ (l : List ℕ). pour d (0 + length x) l) (laid_none x 0 [] (omega arith) ∙ sym (laid_none y 0 [] (omega arith)))
    ∙ ap (λ (n : ℕ). pour d (0 + n) (laid y 0 [])) e
blank false x y d e h = refl

module _ (says says' : ℕ → ℕ → ℕ) (image text : List ℕ) where
  measured_part : (l : Layout) (q : ℕ) → pour (filing says image text l q) 0 [] ≡ pour (filing says' image text l q) 0 []
  unfolding row
  measured_part l q =
      let n = l.c.number in
      let s = says n (length (bytes_out (body image text (length image) q))) in
      let t = says' n (length (bytes_out (body image text (length image) q))) in
      let k = length_row text (opening s) in
      let o = length_row text (opening t) in
      blank (named_of text (opening s)) (row_bytes text (opening s)) (row_bytes text (opening t)) _ (k ∙ sym o) (omega arith)

  -- the first pass counts the same, whatever length the header says
  measured : pour (file says image text) 0 [] ≡ pour (file says' image text) 0 []
  unfolding file
  measured = asked_both image kind.lso 0 (λ x y. pour x 0 [] ≡ pour y 0 []) (filing says image text) (filing says' image text) refl measured_part

-- a row that was put out: its text is named, and the rest goes on behind it
row_went : (text : List ℕ) (r : Row) (at : ℕ) (d : Out) (count : ℕ) (out : List ℕ) {c : Cursor} {n : ℕ} {o : List ℕ}
    → poured (went_to c n) o ≡ pour (row text r at d) count out
    → (Inside text r) × (poured (went_to c n) o ≡ pour d (count + length (row_bytes text r)) (laid (row_bytes text r) count out))
unfolding row pour
row_went text r at d count out {c} {n} {o} =
    picked
    (λ (x : Out). poured (went_to c n) o ≡ pour x count out
    → (Inside text r) × (poured (went_to c n) o ≡ pour d (count + length (row_bytes text r)) (laid (row_bytes text r) count out)))
    (named_of text r) _ _
    (λ h e. (inside text r h, e))
    (λ h e. let s = ap (λ (x : Poured). x.step) e in let y : ◌≡◌ {A = ℕ} 0 1 = cc in absurd (omega arith))

-- what the first pass measures gives the length
pub record Fixed (n : ℕ) (d e : Out) : Type 0 where
  pub enough : 6 ≤ n
  pub same : d ≡ e

module _ (image text : List ℕ) {c : Cursor} {n : ℕ} {o : List ℕ} where
  fixed_part : (l : Layout) (q : ℕ) → poured (went_to c n) o ≡ pour (filing length_of image text l q) 0 []
      → Fixed n (filing (λ name body. n - 6) image text l q) (filing length_of image text l q)
  unfolding pour
  fixed_part l q e =
      let d = body image text (length image) q in
      let m = l.c.number in
      let u = row_went text _ 0 _ _ [] e in
      let v = row_went text _ 0 _ _ _ u.1 in
      let w = row_went text _ 0 d _ _ v.1 in
      let g = went d _ _ w.1 in
      let k : n ≡ 22 + m + length (bytes_out d) = omega (arith, u.0.size, v.0.size, w.0.size, g.size) in
      record { enough = omega arith; same = ap (λ (s : ℕ). header s text l.b.number m d) (omega arith) }

  fixed : poured (went_to c n) o ≡ pour (file length_of image text) 0 [] → Fixed n (file (λ name body. n - 6) image text) (file length_of image text)
  unfolding file pour
  fixed =
      asked_both image kind.lso 0 (λ x y. poured (went_to c n) o ≡ pour y 0 [] → Fixed n x y) (filing (λ name body. n - 6) image text) (filing length_of image text)
      (λ e. let s = ap (λ (x : Poured). x.step) e in let y : ◌≡◌ {A = ℕ} 0 1 = cc in absurd (omega arith)) fixed_part

-- ---- the call

-- the first pass, on no output, tells what the call comes to
module _ (image text : List ℕ) (room : ℕ) (t : length text ≤ limit.bytes) (i : length image ≤ limit.image) where
  within : write_of image text room ≡ settled (file length_of image text) room
  within = pick_yes (length text) limit.bytes _ _ t ∙ pick_yes (length image) limit.image _ _ i

  pub write_halt : {a p : ℕ} {o : List ℕ} → poured (denied a p) o ≡ pour (file (λ name body. 0) image text) 0 [] → write_of image text room ≡ unwritten a
  write_halt e = within ∙ settled_halt (file length_of image text) 0 [] room (e ∙ measured (λ name body. 0) length_of image text)

  module _ {c : Cursor} {n : ℕ} {o : List ℕ} (e : poured (went_to c n) o ≡ pour (file (λ name body. 0) image text) 0 []) where
    through : poured (went_to c n) o ≡ pour (file length_of image text) 0 []
    through = e ∙ measured (λ name body. 0) length_of image text

    pub write_over : limit.bytes < n → write_of image text room ≡ unwritten 1
    write_over g = within ∙ settled_over (file length_of image text) [] through room g

    pub write_full : n ≤ limit.bytes → room < n → write_of image text room ≡ unwritten 4
    write_full g f = within ∙ settled_full (file length_of image text) [] through room g f

    pub write_fits : n ≤ limit.bytes → n ≤ room → write_of image text room ≡ written (bytes_out (file length_of image text))
    write_fits g f = within ∙ settled_fits (file length_of image text) [] through room g f

    pub write_size : n ≡ length (bytes_out (file length_of image text))
    write_size = let w = went (file length_of image text) 0 [] through in omega (arith, w.size)

    pub write_fixed : Fixed n (file (λ name body. n - 6) image text) (file length_of image text)
    write_fixed = fixed image text through

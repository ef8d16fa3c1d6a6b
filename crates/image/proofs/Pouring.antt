-- The laws of rows, of writings and of a writing carried out, and what it comes to.
use Rattle.std.specs.Prelude.{◌+◌, ◌≤◌, ◌<◌, ◌≡◌, ◌∷◌, ◌++◌, Ok, Err}
use Rattle.wire.proofs.Kit.{ℕ, refl, sym, ap, ◌∙◌, List, [], append_assoc, append-nil, Bool, true, false, add-zero, add_assoc}
use Rattle.wire.proofs.Kit.{zero-add, arith, length, length-append, length-take, length-drop, sets, sets-eq, length-sets, leb-true, le-leb}
use Rattle.wire.specs.Choice.{pick}
use Rattle.wire.specs.Bytes.{laid}
use Rattle.wire.specs.Field.{to}
use Rattle.wire.specs.Text.{inside_of}
use Rattle.wire.specs.Utf8.{ends}
use Rattle.wire.specs.Limit as limit
use Rattle.wire.specs.declared.cursor.Cursor.{Cursor}
use Rattle.wire.proofs.Laws.{pick_yes, pick_no, picked, length_digits, length_laid, laid_room, sets_append, then_sets, false_true}
use Rattle.image.specs.declared.record.Field.{Field}
use Rattle.image.specs.declared.writing.Row.{Row}
use Rattle.image.specs.Record.{field_bytes}
use Rattle.image.specs.Out.{Out, end, stop, put, ◌>>=◌, text_of, row_bytes, named_at, named_of, row, most, row_in, row_of, number_bytes, Poured, poured, pour, Grown, bytes, written, unwritten, sized, ended, settled, onto}
use Rattle.image.proofs.Laws.{Laid}
use Rattle.wire.specs.Answer.{denied}
use Rattle.image.specs.Due.{Step, went_to}
use Rattle.wire.proofs.Laws.{same_answer}
use Rattle.wire.proofs.Same.{ok_first, ok_second}

-- ---- one writing and then another

pub bind_assoc : (d : Out) (j k : ℕ → Out) → (d >>= j) >>= k ≡ d >>= (λ n. j n >>= k)
bind_assoc (end n) j k = refl
bind_assoc (stop a p) j k = refl
bind_assoc (put b d) j k = ap (put b) (bind_assoc d j k)

-- ---- a writing carried out

-- what is poured, handed on where it goes on
unfoldable after_step : Step → List ℕ → (ℕ → ℕ → List ℕ → Poured) → Poured
after_step (Ok x) out k = k x.0.at x.1 out
after_step (Err r) out k = poured (denied r.answer r.place) out

unfoldable after : Poured → (ℕ → ℕ → List ℕ → Poured) → Poured
after x k = after_step x.step x.out k

-- one writing and then another is the one carried out and then the other
pour_bind : (d : Out) (k : ℕ → Out) (count : ℕ) (out : List ℕ)
    → pour (d >>= k) count out ≡ after (pour d count out) (λ n m o. pour (k n) m o)
unfolding pour after after_step
pour_bind (end n) k count out = refl
pour_bind (stop a p) k count out = refl
pour_bind (put b d) k count out = pour_bind d k (count + length b) (laid b count out)

module _ (d : Out) (k : ℕ → Out) (count : ℕ) (out : List ℕ) where
  -- the first goes on, and the second goes on from there
  pub pour_then : {c : Cursor} {n : ℕ} {o : List ℕ} → poured (went_to c n) o ≡ pour d count out → pour (d >>= k) count out ≡ pour (k c.at) n o
  unfolding after after_step
  pour_then e = pour_bind d k count out ∙ ap (λ (x : Poured). after x (λ n m o. pour (k n) m o)) (sym e)

  -- the first stops, and so does the whole
  pub pour_halt : {a p : ℕ} {o : List ℕ} → poured (denied a p) o ≡ pour d count out → pour (d >>= k) count out ≡ poured (denied a p) o
  unfolding after after_step
  pour_halt e = pour_bind d k count out ∙ ap (λ (x : Poured). after x (λ n m o. pour (k n) m o)) (sym e)

module _ (count : ℕ) (out : List ℕ) where
  pub pour_stop : (a p : ℕ) → pour (stop a p) count out ≡ poured (denied a p) out
  unfolding pour
  pour_stop a p = refl

  pub pour_end : (n : ℕ) → pour (end n) count out ≡ poured (went_to (to n) count) out
  unfolding pour
  pour_end n = refl

-- the output keeps its length
pub pour_length : (d : Out) (count : ℕ) (out : List ℕ) → length (pour d count out).out ≡ length out
unfolding pour
pour_length (end n) count out = refl
pour_length (stop a p) count out = refl
pour_length (put b d) count out = pour_length d (count + length b) (laid b count out) ∙ length_laid b count out

-- where all its bytes have room, they are what is put out
pub pour_bytes : (d : Out) (count : ℕ) (out : List ℕ) → count + length (bytes d) ≤ length out → (pour d count out).out ≡ sets out count (bytes d)
unfolding pour bytes
pour_bytes (end n) count out h = refl
pour_bytes (stop a p) count out h = refl
pour_bytes (put b d) count out h =
    let l = length-append b (bytes d) in
    let g : count + length b ≤ length out = omega arith in
    let k = length-sets out count b in
    ap (λ (x : List ℕ). (pour d (count + length b) x).out) (laid_room b count out g)
    ∙ pour_bytes d (count + length b) (sets out count b) (omega arith)
    ∙ sym (sets_append out count b (bytes d))

-- ---- what a writing comes to

abbrev step_of : Poured → Step
step_of x = x.step

-- a writing that goes on has put out its bytes, and is judged by them
pub record Went (d : Out) (count n : ℕ) : Type 0 where
  pub size : n ≡ count + length (bytes d)
  pub judged : (b : List ℕ) (room : ℕ) → ended d b room ≡ sized b room

pub went : (d : Out) (count : ℕ) (out : List ℕ) {c : Cursor} {n : ℕ} {o : List ℕ} → poured (went_to c n) o ≡ pour d count out → Went d count n
unfolding pour bytes ended
went (end m) count out {c} {n} e =
    let s = ap step_of e in
    let f : n ≡ count = ok_second s in
    record { size = f ∙ sym (add-zero count); judged = λ b room. refl }
went (stop a p) count out e = let s = ap step_of e in let z : ◌≡◌ {A = ℕ} 0 1 = cc in absurd (omega arith)
went (put b d) count out e =
    let r = went d (count + length b) (laid b count out) e in
    record { size = rw length-append (r.size ∙ add_assoc count (length b) (length (bytes d))); judged = r.judged }

-- a writing that stops is refused, whatever it has put out
ended_halt : (d : Out) (count : ℕ) (out : List ℕ) {a p : ℕ} {o : List ℕ} → poured (denied a p) o ≡ pour d count out
    → (b : List ℕ) (room : ℕ) → ended d b room ≡ unwritten a
unfolding pour ended
ended_halt (end n) count out e b room = let s = ap step_of e in let z : ◌≡◌ {A = ℕ} 0 1 = cc in absurd (omega arith)
ended_halt (stop w q) count out {a} e b room = let s = ap step_of e in let f : w ≡ a = sym (same_answer s) in rw f
ended_halt (put x d) count out e b room = ended_halt d (count + length x) (laid x count out) e b room

pub settled_halt : (d : Out) (count : ℕ) (out : List ℕ) (room : ℕ) {a p : ℕ} {o : List ℕ} → poured (denied a p) o ≡ pour d count out
    → settled d room ≡ unwritten a
unfolding settled
settled_halt d count out room e = ended_halt d count out e (bytes d) room

pub settled_stop : (a p room : ℕ) → settled (stop a p) room ≡ unwritten a
unfolding settled ended
settled_stop a p room = refl

-- a check behind a writing puts nothing out
pub bytes_bind : (d : Out) (k : ℕ → Out) → ((n : ℕ) → bytes (k n) ≡ []) → bytes (d >>= k) ≡ bytes d
unfolding bytes
bytes_bind (end n) k h = h n
bytes_bind (stop a p) k h = refl
bytes_bind (put b d) k h = ap (λ (x : List ℕ). b ++ x) (bytes_bind d k h)

-- measured first, from an empty output: n is then how many bytes there are
module _ (d : Out) (out : List ℕ) {c : Cursor} {n : ℕ} {o : List ℕ} (e : poured (went_to c n) o ≡ pour d 0 out) (room : ℕ) where
  pub settled_over : limit.bytes < n → settled d room ≡ unwritten 1
  unfolding settled
  settled_over h =
      let w = went d 0 out e in
      w.judged (bytes d) room ∙ pick_no (length (bytes d)) limit.bytes _ _ (omega arith)

  pub settled_full : n ≤ limit.bytes → room < n → settled d room ≡ unwritten 4
  unfolding settled
  settled_full h g =
      let w = went d 0 out e in
      w.judged (bytes d) room
      ∙ pick_yes (length (bytes d)) limit.bytes _ _ (omega arith)
      ∙ pick_no (length (bytes d)) room _ _ (omega arith)

  pub settled_fits : n ≤ limit.bytes → n ≤ room → settled d room ≡ written (bytes d)
  unfolding settled
  settled_fits h g =
      let w = went d 0 out e in
      w.judged (bytes d) room
      ∙ pick_yes (length (bytes d)) limit.bytes _ _ (omega arith)
      ∙ pick_yes (length (bytes d)) room _ _ (omega arith)

-- an output without room leaves the rest of the buffer as it is
pub no_room : (b out : List ℕ) → length b ≡ 0 → b ++ out ≡ out
no_room [] out e = refl
no_room (x ∷ b) out e = absurd (omega arith)

-- put out then, it is the bytes and what stood behind them
pub pour_onto : (d : Out) (out : List ℕ) {x : Step} {o : List ℕ} → poured x o ≡ pour d 0 out → length (bytes d) ≤ length out → o ≡ onto (bytes d) out
pour_onto d out e h =
    let z : 0 + length (bytes d) ≡ length (bytes d) = zero-add (length (bytes d)) in
    ap (λ (y : Poured). y.out) e ∙ pour_bytes d 0 out (omega arith) ∙ sets-eq (bytes d) out 0 (omega arith) ∙ rw z

-- ---- a row put out

pub length_row : (text : List ℕ) (r : Row) → length (row_bytes text r) ≡ r.mark.width + r.a.width + r.b.width + length (text_of text r)
length_row text r = simp (length-append, length_digits) (omega arith)

-- with a text that is inside
pub length_text : (text : List ℕ) (r : Row) → r.place + r.length ≤ length text → length (row_bytes text r) ≡ r.mark.width + r.a.width + r.b.width + r.length
length_text text r h =
    let k : length (text_of text r) ≡ r.length = rw (le-leb (r.place + r.length) (length text) h) (simp (length-take, length-drop) (omega arith)) in
    length_row text r ∙ rw k

-- its numbers are laid, and then its text
pub laid_row : (text : List ℕ) (r : Row) (at : ℕ) (out : List ℕ) {p : ℕ} {o q : List ℕ}
    → Laid out at ((field_bytes r.mark ++ field_bytes r.a) ++ field_bytes r.b) p o → q ≡ laid (text_of text r) p o
    → at + length (row_bytes text r) ≤ length out → q ≡ laid (row_bytes text r) at out
laid_row text r at out {p} {o} l e h =
    let t = text_of text r in
    let x = (field_bytes r.mark ++ field_bytes r.a) ++ field_bytes r.b in
    let k : x ++ t ≡ row_bytes text r = simp append_assoc in
    let n : length o ≡ length out = ap length l.stored ∙ length-sets out at x in
    let f : p + length t ≤ length o = omega (arith, l.place, length-append x t, ap length k) in
    e ∙ laid_room t p o f ∙ rw (l.stored, ← k) (then_sets out at p x t l.place) ∙ sym (laid_room (row_bytes text r) at out h)

-- a row without a text is its numbers, whatever is lent
pub bytes_none : (text : List ℕ) (a b c : Field) → row_bytes text (row_of a b c 0 0) ≡ number_bytes a b c
bytes_none text a b c =
    rw (le-leb 0 (length text) (omega arith)) (ap (λ (x : List ℕ). field_bytes a ++ (field_bytes b ++ x)) (append-nil (field_bytes c)))

pub length_numbers : (a b c : Field) → length (number_bytes a b c) ≡ a.width + b.width + c.width
length_numbers a b c = simp (length-append, length_digits) (omega arith)

pub named_none : (text : List ℕ) → named_at text 0 0 ≡ true
unfolding ends
named_none text = rw (le-leb 0 (length text) (omega arith))

-- a text that is named stands in the lent one, so the row's size is that of its parts
pub record Inside (text : List ℕ) (r : Row) : Type 0 where
  pub fits : r.place + r.length ≤ length text
  pub size : length (row_bytes text r) ≡ r.mark.width + r.a.width + r.b.width + r.length

pub inside : (text : List ℕ) (r : Row) → named_of text r ≡ true → Inside text r
inside text r =
    picked (λ (t : Bool). t ≡ true → Inside text r) (inside_of text r.place r.length) _ _
    (λ h e.
    let f = leb-true (r.place + r.length) (length text) h in
    record { fits = f; size = length_text text r f })
    (λ h e. absurd (false_true e))

module _ (text : List ℕ) (r : Row) (at next count : ℕ) (out : List ℕ) where
  pub pour_row : named_of text r ≡ true → {n : ℕ} {o : List ℕ} → n ≡ count + length (row_bytes text r) → o ≡ laid (row_bytes text r) count out
      → poured (went_to (to next) n) o ≡ pour (row text r at (end next)) count out
  unfolding row pour
  pour_row e f g = rw (e, f, g)

  pub pour_unnamed : named_of text r ≡ false → poured (denied 6 at) out ≡ pour (row text r at (end next)) count out
  unfolding row pour
  pour_unnamed e = rw e

-- the row behind a count that no writing comes to, and with numbers that none has
module _ (count : ℕ) (text : List ℕ) (r : Row) (at : ℕ) (d : Out) where
  pub row_in_count : most < count → row_in count text r at d ≡ stop 1 0
  unfolding row_in
  row_in_count h = pick_no count most _ _ h

  module _ (m : count ≤ most) where
    pub row_in_mark : 8 < r.mark.width → row_in count text r at d ≡ stop 1 0
    unfolding row_in
    row_in_mark h = pick_yes count most _ _ m ∙ pick_no r.mark.width 8 _ _ h

    module _ (x : r.mark.width ≤ 8) where
      pub row_in_a : 8 < r.a.width → row_in count text r at d ≡ stop 1 0
      unfolding row_in
      row_in_a h = pick_yes count most _ _ m ∙ pick_yes r.mark.width 8 _ _ x ∙ pick_no r.a.width 8 _ _ h

      module _ (y : r.a.width ≤ 8) where
        pub row_in_b : 8 < r.b.width → row_in count text r at d ≡ stop 1 0
        unfolding row_in
        row_in_b h =
            pick_yes count most _ _ m ∙ pick_yes r.mark.width 8 _ _ x ∙ pick_yes r.a.width 8 _ _ y ∙ pick_no r.b.width 8 _ _ h

        pub row_in_row : r.b.width ≤ 8 → row_in count text r at d ≡ row text r at d
        unfolding row_in
        row_in_row h =
            pick_yes count most _ _ m ∙ pick_yes r.mark.width 8 _ _ x ∙ pick_yes r.a.width 8 _ _ y ∙ pick_yes r.b.width 8 _ _ h

-- ---- where a step goes on

pub grown_stop : {a p next high : ℕ} → Grown (denied a p) next high
grown_stop = record { bounds = λ c n e. let z : ◌≡◌ {A = ℕ} 0 1 = cc in absurd (omega arith) }

pub grown_next : {c : Cursor} {n high : ℕ} → n ≤ high → Grown (went_to c n) c.at high
grown_next {c} {n} h =
    record { bounds = λ d m e. let f : c.at ≡ d.at = ap (λ (x : Cursor). x.at) (ok_first e) in let g : n ≡ m = ok_second e in omega arith }

-- ---- a row and what follows it

-- the numbers of a row are no wider than eight bytes
pub record Slim (r : Row) : Type 0 where
  pub mark : r.mark.width ≤ 8
  pub a : r.a.width ≤ 8
  pub b : r.b.width ≤ 8

pub row_bind : (text : List ℕ) (r : Row) (at q : ℕ) (k : ℕ → Out) → row text r at (k q) ≡ row text r at (end q) >>= k
unfolding row
row_bind text r at q k = go (named_of text r)
  where
    go : (t : Bool) → pick t (put (row_bytes text r) (k q)) (stop 6 at) ≡ pick t (put (row_bytes text r) (end q)) (stop 6 at) >>= k
    go true = refl
    go false = refl

module _ (text : List ℕ) (r : Row) (at q count : ℕ) (out : List ℕ) (s : Slim r) (m : count ≤ most) where
  pub row_in_lem : row_in count text r at (end q) ≡ row text r at (end q)
  row_in_lem = row_in_row count text r at (end q) m s.mark s.a s.b

  -- the row is put out, and the rest goes on behind it
  pub row_then : (k : ℕ → Out) {c : Cursor} {n : ℕ} {o : List ℕ} → poured (went_to c n) o ≡ pour (row_in count text r at (end q)) count out
      → pour (row text r at (k q)) count out ≡ pour (k c.at) n o
  row_then k e = rw (row_bind text r at q k) (pour_then (row text r at (end q)) k count out (e ∙ rw row_in_lem))

  -- the row is refused, and so is the whole
  pub row_halt : (k : ℕ → Out) {a p : ℕ} {o : List ℕ} → poured (denied a p) o ≡ pour (row_in count text r at (end q)) count out
      → pour (row text r at (k q)) count out ≡ poured (denied a p) o
  row_halt k e = rw (row_bind text r at q k) (pour_halt (row text r at (end q)) k count out (e ∙ rw row_in_lem))

-- The laws of records, of readings and of a reading carried out.
use Rattle.std.specs.Prelude.{◌+◌, ◌-◌, ◌≤◌, ◌<◌, ◌≡◌, ◌∷◌, ◌++◌, Ok, Err}
use Rattle.wire.proofs.Kit.{ℕ, refl, sym, ap, ◌∙◌, List, [], Bool, true, false, div-one}
use Rattle.wire.proofs.Kit.{mod-eq_of_lt, zero-add, add-zero, arith, length, take, replicate, length-append, length-take, sets, length-sets}
use Rattle.wire.proofs.Kit.{leb}
use Rattle.wire.specs.Choice.{pick}
use Rattle.wire.specs.Field.{to}
use Rattle.wire.specs.declared.cursor.Cursor.{Cursor}
use Rattle.wire.specs.Number.{stored}
use Rattle.wire.specs.Bytes.{laid}
use Rattle.wire.proofs.Laws.{pick_yes, pick_no, picked, length_digits, laid_room, then_sets}
use Rattle.image.specs.declared.record.Field.{Field}
use Rattle.image.specs.declared.record.Layout.{Layout}
use Rattle.image.specs.declared.record.Record.{Record}
use Rattle.image.specs.declared.record.Record.TheVariants.{Number, Boolean, Text, Object, Null, Undefined, Reference, EcmaArray, ObjectEnd, StrictArray, Date, Unsupported, Xml, TypedObject, Key, Packet, Header, Message, Lso}
use Rattle.image.specs.Record.{◌bytes◌, layout_of, bytes_in, size_in, bytes_of, size, placed, moved, field_bytes}
use Rattle.image.specs.Due.{Due, Fact, end, stop, seen, due, ◌>>=◌, based, Ran, ran, run, Within, put, Step, went_to}
use Rattle.image.specs.Whole.{padded}
use Rattle.wire.specs.Answer.{denied}
use Rattle.wire.proofs.Same.{ok_first, ok_second}

-- ---- a record's size

length_field : (l : Layout) → length (bytes_in l) ≡ size_in l
length_field l = simp (length-append, length_digits) (omega arith)

pub size_bytes : (r : Record) → length (bytes_of r) ≡ size r
unfolding bytes_of size
size_bytes r = length_field (layout_of r)

pub size_some : (r : Record) → 1 ≤ size r
unfolding size
size_some r = omega arith

-- a kind is a byte, and the longest record a date
pub small : (r : Record) → ((layout_of r).kind < 256) × (size_in (layout_of r) ≤ 12)
small (Number n) = omega arith
small (Boolean b) = omega arith
small (Text p n) = omega arith
small Object = omega arith
small Null = omega arith
small Undefined = omega arith
small (Reference n) = omega arith
small (EcmaArray n) = omega arith
small ObjectEnd = omega arith
small (StrictArray n) = omega arith
small (Date n z t) = omega arith
small Unsupported = omega arith
small (Xml p n) = omega arith
small (TypedObject p n) = omega arith
small (Key p n) = omega arith
small (Packet h m) = omega arith
small (Header p n f) = omega arith
small (Message p n q m) = omega arith
small (Lso l p n) = omega arith

-- and so long wherever its texts stand
pub size_placed : (f : ℕ → ℕ) (r : Record) → size (placed f r) ≡ size r
unfolding size
size_placed f (Number n) = refl
size_placed f (Boolean b) = refl
size_placed f (Text p n) = refl
size_placed f Object = refl
size_placed f Null = refl
size_placed f Undefined = refl
size_placed f (Reference n) = refl
size_placed f (EcmaArray n) = refl
size_placed f ObjectEnd = refl
size_placed f (StrictArray n) = refl
size_placed f (Date n z t) = refl
size_placed f Unsupported = refl
size_placed f (Xml p n) = refl
size_placed f (TypedObject p n) = refl
size_placed f (Key p n) = refl
size_placed f (Packet h m) = refl
size_placed f (Header p n b) = refl
size_placed f (Message p n q m) = refl
size_placed f (Lso l p n) = refl

-- ---- a record laid field by field

-- The bytes x are stored from a place on, and p is the place behind them.
pub record Laid (image : List ℕ) (at : ℕ) (x : List ℕ) (p : ℕ) (now : List ℕ) : Type 0 where
  pub place : p ≡ at + length x
  pub stored : now ≡ sets image at x

module _ (image : List ℕ) (at : ℕ) where
  pub laid_kind : (k : ℕ) {i : List ℕ} → k < 256 → at + 1 ≤ length image → i ≡ stored 1 k at image → Laid image at (k ∷ []) (at + 1) i
  laid_kind k h l e = record { place = refl; stored = e ∙ (pick_yes (at + 1) (length image) _ _ l ∙ rw (div-one k, mod-eq_of_lt h)) }

  pub laid_field : (f : Field) {x i j : List ℕ} {p q : ℕ} → Laid image at x p i → q ≡ p + f.width → j ≡ sets i p (field_bytes f)
      → Laid image at (x ++ field_bytes f) q j
  laid_field f {x} l e g =
      record {
        place = rw (length-append, length_digits) (omega (arith, l.place));
        stored = g ∙ rw l.stored (then_sets image at _ x (field_bytes f) l.place);
      }

  -- a number in w bytes behind them
  pub laid_number : (w n : ℕ) {x i j : List ℕ} {p : ℕ} → Laid image at x p i → p + w ≤ length image → j ≡ stored w n p i
      → Laid image at (x ++ field_bytes (w bytes n)) (p + w) j
  laid_number w n {x} {i} {j} {p} l h e =
      let k : length i ≡ length image = ap length l.stored ∙ length-sets image at x in
      laid_field (w bytes n) l refl (e ∙ pick_yes (p + w) (length i) _ _ (omega arith))

  -- nothing is stored yet
  pub laid_nothing : Laid image at [] at image
  laid_nothing = record { place = sym (add-zero at); stored = refl }

  -- the same bytes
  pub laid_same : {x y i : List ℕ} {p : ℕ} → x ≡ y → Laid image at x p i → Laid image at y p i
  laid_same e l = record { place = l.place ∙ rw e; stored = l.stored ∙ rw e }

  pub laid_all : {x i : List ℕ} {p : ℕ} → Laid image at x p i → at + length x ≤ length image → i ≡ laid x at image
  laid_all {x} l h = l.stored ∙ sym (laid_room x at image h)

  -- what lies so is laid, or has no room
  pub put_laid : (l : Layout) (p n : ℕ) {x i : List ℕ} {m : ℕ} → Laid image at x m i → x ≡ bytes_in l → m ≤ length image
      → ran (went_to (to n) m) i ≡ put l p n at image
  unfolding put
  put_laid l p n {m = m} z e h =
      let f : m ≡ at + size_in l = z.place ∙ (rw e (ap (λ (k : ℕ). at + k) (length_field l))) in
      rw (f, z.stored, e) (sym (pick_yes (at + size_in l) (length image) _ _ (omega (arith, f, h))))

  pub put_full : (l : Layout) (p n : ℕ) → length image < at + size_in l → ran (denied 4 p) image ≡ put l p n at image
  unfolding put
  put_full l p n h = sym (pick_no (at + size_in l) (length image) _ _ h)

-- ---- one reading and then another

pub bind_assoc : (d : Due) (j k : ℕ → Due) → (d >>= j) >>= k ≡ d >>= (λ n. j n >>= k)
bind_assoc (end n) j k = refl
bind_assoc (stop a p) j k = refl
bind_assoc (seen fact d) j k = ap (seen fact) (bind_assoc d j k)
bind_assoc (due r p d) j k = ap (due r p) (bind_assoc d j k)

pub bind_end : (d : Due) → d >>= end ≡ d
bind_end (end n) = refl
bind_end (stop a p) = refl
bind_end (seen fact d) = ap (seen fact) (bind_end d)
bind_end (due r p d) = ap (due r p) (bind_end d)

pub based_bind : (a : ℕ) (d : Due) (k : ℕ → Due) → based a (d >>= k) ≡ based a d >>= (λ n. based a (k n))
based_bind a (end n) k = refl
based_bind a (stop w p) k = refl
based_bind a (seen fact d) k = ap (seen fact) (based_bind a d k)
based_bind a (due r p d) k = ap (due (moved a r) (a + p)) (based_bind a d k)

-- a record whose places are taken for themselves
placed_same : (f : ℕ → ℕ) → ((p : ℕ) → f p ≡ p) → (r : Record) → placed f r ≡ r
placed_same f e (Number n) = refl
placed_same f e (Boolean b) = refl
placed_same f e (Text p n) = rw e
placed_same f e Object = refl
placed_same f e Null = refl
placed_same f e Undefined = refl
placed_same f e (Reference n) = refl
placed_same f e (EcmaArray n) = refl
placed_same f e ObjectEnd = refl
placed_same f e (StrictArray n) = refl
placed_same f e (Date n z t) = refl
placed_same f e Unsupported = refl
placed_same f e (Xml p n) = rw e
placed_same f e (TypedObject p n) = rw e
placed_same f e (Key p n) = rw e
placed_same f e (Packet h m) = refl
placed_same f e (Header p n b) = rw e
placed_same f e (Message p n q m) = rw (e p, e q)
placed_same f e (Lso l p n) = rw e

-- a part that begins at the front
pub based_zero : (d : Due) → based 0 d ≡ d
based_zero (end n) = refl
based_zero (stop w p) = rw zero-add
based_zero (seen fact d) = ap (seen fact) (based_zero d)
based_zero (due r p d) = rw (placed_same (λ p. 0 + p) zero-add r, zero-add p, based_zero d)

-- ---- a reading carried out

-- what a run leaves, handed on where it goes on
unfoldable pub after_step : Step → List ℕ → (ℕ → ℕ → List ℕ → Ran) → Ran
after_step (Ok x) image k = k x.0.at x.1 image
after_step (Err r) image k = ran (denied r.answer r.place) image

unfoldable pub after : Ran → (ℕ → ℕ → List ℕ → Ran) → Ran
after x k = after_step x.step x.image k

after_pick : (b : Bool) (x y : Ran) (k : ℕ → ℕ → List ℕ → Ran) → pick b (after x k) (after y k) ≡ after (pick b x y) k
after_pick true x y k = refl
after_pick false x y k = refl

-- one reading and then another is the one carried out and then the other
pub run_bind : (d : Due) (k : ℕ → Due) (made : ℕ) (image : List ℕ)
    → run (d >>= k) made image ≡ after (run d made image) (λ n m i. run (k n) m i)
unfolding run after after_step
run_bind (end n) k made image = refl
run_bind (stop a p) k made image = refl
run_bind (seen fact d) k made image = run_bind d k made image
run_bind (due r p d) k made image =
    ap (λ (x : Ran). pick (leb (made + size r) (length image)) x (ran (denied 4 p) image))
    (run_bind d k (made + size r) (sets image made (bytes_of r)))
    ∙ after_pick (leb (made + size r) (length image)) (run d (made + size r) (sets image made (bytes_of r))) (ran (denied 4 p) image)
    (λ n m i. run (k n) m i)

module _ (d : Due) (k : ℕ → Due) (made : ℕ) (image : List ℕ) where
  -- the first goes on, and the second goes on from there
  pub run_then : {c : Cursor} {m : ℕ} {i : List ℕ} → ran (went_to c m) i ≡ run d made image → run (d >>= k) made image ≡ run (k c.at) m i
  unfolding after after_step
  run_then e = run_bind d k made image ∙ ap (λ (x : Ran). after x (λ n m i. run (k n) m i)) (sym e)

  -- the first stops, and so does the whole
  pub run_halt : {a p : ℕ} {i : List ℕ} → ran (denied a p) i ≡ run d made image → run (d >>= k) made image ≡ ran (denied a p) i
  unfolding after after_step
  run_halt e = run_bind d k made image ∙ ap (λ (x : Ran). after x (λ n m i. run (k n) m i)) (sym e)

-- the same in a part that begins at the place b of a whole
module _ (b : ℕ) (d : Due) (k : ℕ → Due) (made : ℕ) (image : List ℕ) where
  pub run_then_based : {c : Cursor} {m : ℕ} {i : List ℕ}
      → ran (went_to c m) i ≡ run (based b d) made image → run (based b (d >>= k)) made image ≡ run (based b (k c.at)) m i
  run_then_based e = rw (based_bind b d k) (run_then (based b d) (λ n. based b (k n)) made image e)

  pub run_halt_based : {a p : ℕ} {i : List ℕ}
      → ran (denied a p) i ≡ run (based b d) made image → run (based b (d >>= k)) made image ≡ ran (denied a p) i
  run_halt_based e = rw (based_bind b d k) (run_halt (based b d) (λ n. based b (k n)) made image e)

module _ (made : ℕ) (image : List ℕ) where
  pub run_stop : (a p : ℕ) → run (stop a p) made image ≡ ran (denied a p) image
  unfolding run
  run_stop a p = refl

  pub run_seen : (fact : Fact) (d : Due) → run (seen fact d) made image ≡ run d made image
  unfolding run
  run_seen fact d = refl

  pub run_end : (n : ℕ) → run (end n) made image ≡ ran (went_to (to n) made) image
  unfolding run
  run_end n = refl

-- the image keeps its length
pub run_length : (d : Due) (made : ℕ) (image : List ℕ) → length (run d made image).image ≡ length image
unfolding run
run_length (end n) made image = refl
run_length (stop a p) made image = refl
run_length (seen fact d) made image = run_length d made image
run_length (due r p d) made image =
    picked (λ (x : Ran). length x.image ≡ length image) (leb (made + size r) (length image)) _ _
    (λ h. run_length d (made + size r) (sets image made (bytes_of r)) ∙ length-sets image made (bytes_of r))
    (λ h. refl)

-- ---- the places that a step goes on at

pub within : {x : Step} {l h l' h' room room' : ℕ} → Within x l h room → l' ≤ l → h ≤ h' → room ≤ room' → Within x l' h' room'
within w lo hi ro = record { bounds = λ c m e. let b = w.bounds c m e in omega arith }

pub within_stop : {a p l h room : ℕ} → Within (denied a p) l h room
within_stop = record { bounds = λ c m e. let z : ◌≡◌ {A = ℕ} 0 1 = cc in absurd (omega arith) }

pub within_next : {c : Cursor} {m l h room : ℕ} → l ≤ c.at → c.at ≤ h → m ≤ room → Within (went_to c m) l h room
within_next {c} {m} lo hi ro =
    record { bounds = λ d n e. let f : c.at ≡ d.at = ap (λ (x : Cursor). x.at) (ok_first e) in let g : m ≡ n = ok_second e in omega arith }

-- what is laid as a record lies is the record
pub put_record : (r : Record) (l : Layout) (made p n : ℕ) (image : List ℕ) {i : List ℕ} {x : Step} {room : ℕ}
    → l ≡ layout_of r → (ran x i ≡ put l p n made image) × Within x n n room → (ran x i ≡ run (due r p (end n)) made image) × Within x n n room
unfolding put run size bytes_of
put_record r l made p n image e z = (rw e at z.0, z.1)

-- ---- zeros from a place on

pub padded_take : (m : ℕ) (l : List ℕ) → take m l ++ replicate (length l - m) 0 ≡ padded (take m l) (length l)
padded_take m l =
    let e : length l - m ≡ length l - length (take m l) = rw length-take (omega arith) in
    rw e

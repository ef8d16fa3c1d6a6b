-- Each key record of a tree has one mark: the key places of the marks are, in a row, the places of the key records.
use Rattle.std.specs.Prelude.{◌+◌, ◌≤◌, ◌<◌, ◌≡◌, ◌∷◌, ◌++◌}
use Rattle.wire.proofs.Kit.{ℕ, zero, suc, refl, sym, ap, ◌∙◌, List, [], true, false, add-zero, arith, length, get_or}
use Rattle.image.specs.declared.record.Record.{Record}
use Rattle.image.specs.declared.record.Record.TheVariants as R
use Rattle.image.specs.Record.{size}
use Rattle.image.proofs.Laws.{size_some}
use Rattle.amf0.specs.Standard.{Sort, Tree}
use Rattle.amf0.specs.Shown.{laid, Right}
use Rattle.amf0.specs.Written.{Lead, Spells, Writable}
use Rattle.amf0_theorems.proofs.Puts.{laid_size, right_left, right_right}
use Rattle.lso.specs.File.{Lso}
use Rattle.lso.specs.File as File
use Rattle.lso.specs.Written as file
use Rattle.index.specs.declared.mark.Mark.{Mark}
use Rattle.index.specs.Mark.{nothing}
use Rattle.index.specs.Keys.{role_of}
use Rattle.index_theorems.specs.Way.{marks, marks_of, places_of, is_key, key_places}
use Rattle.index.proofs.Rows.{cases}
use Rattle.index_theorems.proofs.Marks.{Valued, Keyed, Closed, means}
use Rattle.index_theorems.proofs.Whole.{keys}
use Rattle.index_theorems.proofs.Files.{file_keys, head}

places_append : (a b : List Mark) → places_of (a ++ b) ≡ places_of a ++ places_of b
places_append [] b = refl
places_append (m ∷ a) b = ap (λ (l : List ℕ). m.key ∷ l) (places_append a b)

-- ---- the places of key records

key_yes : (at : ℕ) (r : Record) (rs : List Record) → is_key (role_of r) ≡ true → key_places at (r ∷ rs) ≡ at ∷ key_places (at + size r) rs
unfolding key_places
key_yes at r rs h = rw h

key_no : (at : ℕ) (r : Record) (rs : List Record) → is_key (role_of r) ≡ false → key_places at (r ∷ rs) ≡ key_places (at + size r) rs
unfolding key_places
key_no at r rs h = rw h

key_places_lem : (at : ℕ) (rs qs : List Record) → key_places at (rs ++ qs) ≡ key_places at rs ++ key_places (at + length (laid rs)) qs
unfolding key_places
key_places_lem at [] qs = ap (λ (n : ℕ). key_places n qs) (sym (add-zero at))
key_places_lem at (r ∷ rs) qs =
    let q : at + size r + length (laid rs) ≡ at + length (laid (r ∷ rs)) = omega (arith, laid_size r rs) in
    let e = key_places_lem (at + size r) rs qs ∙ ap (λ (n : ℕ). key_places (at + size r) rs ++ key_places n qs) q in
    cases (is_key (role_of r)) (λ h. rw h (ap (λ (l : List ℕ). at ∷ l) e)) (λ h. rw h e)

-- each stands behind the one before
abbrev Climbs : ℕ → List ℕ → Type 0
Climbs low [] = Unit {0}
Climbs low (x ∷ l) = (low ≤ x) × Climbs (x + 1) l

lower : (a b : ℕ) (l : List ℕ) → a ≤ b → Climbs b l → Climbs a l
lower a b [] h c = tt
lower a b (x ∷ l) h c = (omega (arith, c.0), c.1)

climbs : (at : ℕ) (rs : List Record) → Climbs at (key_places at rs)
unfolding key_places
climbs at [] = tt
climbs at (r ∷ rs) =
    let b = size_some r in
    let e = climbs (at + size r) rs in
    cases (is_key (role_of r)) (λ h. rw h (omega arith, lower (at + 1) (at + size r) (key_places (at + size r) rs) (omega arith) e))
    (λ h. rw h (lower at (at + size r) (key_places (at + size r) rs) (omega arith) e))

climb_from : (l : List Mark) (low : ℕ) → Climbs low (places_of l) → (i : ℕ) → i < length l → low ≤ (get_or l i nothing).key
climb_from [] low c i h = absurd (omega arith)
climb_from (m ∷ l) low c zero h = c.0
climb_from (m ∷ l) low c (suc i) h = omega (arith, c.0, climb_from l (m.key + 1) c.1 i (omega arith))

climb_less : (l : List Mark) (low : ℕ) → Climbs low (places_of l) → (i j : ℕ) → i < j → j < length l → (get_or l i nothing).key < (get_or l j nothing).key
climb_less [] low c i j h g = absurd (omega arith)
climb_less (m ∷ l) low c i zero h g = absurd (omega arith)
climb_less (m ∷ l) low c zero (suc j) h g = omega (arith, climb_from l (m.key + 1) c.1 j (omega arith))
climb_less (m ∷ l) low c (suc i) (suc j) h g = climb_less l (m.key + 1) c.1 i j (omega arith) (omega arith)

-- ---- they are those of the marks

module _ (s : List ℕ) where
  no_more : (at : ℕ) → key_places at [] ≡ []
  unfolding key_places
  no_more at = refl

  places_both : (a b : List Mark) (at : ℕ) (rs qs : List Record) → places_of a ≡ key_places at rs → places_of b ≡ key_places (at + length (laid rs)) qs
      → places_of (a ++ b) ≡ key_places at (rs ++ qs)
  places_both a b at rs qs h g = places_append a b ∙ rw (h, g) (sym (key_places_lem at rs qs))

  pub places_are : {l : Lead} {k : Sort} {t : Tree k} {rs : List Record} (c : Spells s l k t rs) → Right s rs → (place d at : ℕ)
      → places_of (marks c place d at) ≡ key_places at rs
  unfolding marks
  places_are (Spells.node {r} {i} {rs = rs} e c) g place d at =
      let w : Valued s r i = rw e at (means s r g.1) in
      places_are c g.2 at (d + 1) (at + size r) ∙ sym (key_no at r rs (ap is_key w.role))
  places_are (Spells.none {r} e) g place d at =
      let w : Closed r = rw e at (means s r g.1) in
      sym (key_no at r [] (ap is_key w.role) ∙ no_more (at + size r))
  places_are (Spells.property {r} {k} {v} {ps} {rs} {qs} e c b) g place d at =
      let w : Keyed s r k = rw e at (means s r g.1) in
      ap (λ (l : List ℕ). at ∷ l)
      (places_both (marks c place d (at + size r)) (marks b place d (at + size r + length (laid rs))) (at + size r) rs qs
      (places_are c (right_left s rs qs g.2) place d (at + size r)) (places_are b (right_right s rs qs g.2) place d (at + size r + length (laid rs))))
      ∙ sym (key_yes at r (rs ++ qs) (ap is_key w.role))
  places_are Spells.nil g place d at = sym (no_more at)
  places_are (Spells.cons {rs} {qs} c b) g place d at =
      places_both (marks c place d at) (marks b place d (at + length (laid rs))) at rs qs
      (places_are c (right_left s rs qs g) place d at) (places_are b (right_right s rs qs g) place d (at + length (laid rs)))
  places_are (Spells.dense {rs} {qs} c b) g place d at =
      places_both (marks c place d at) (marks b place d (at + length (laid rs))) at rs qs
      (places_are c (right_left s rs qs g) place d at) (places_are b (right_right s rs qs g) place d (at + length (laid rs)))
  places_are (Spells.pairs c) g place d at = places_are c g place d at

  places_of_lem : {b : File.Body} {rs : List Record} (c : file.Spells s b rs) → Right s rs → (at : ℕ) → places_of (marks_of c at) ≡ key_places at rs
  unfolding marks_of
  places_of_lem file.Spells.none g at = sym (no_more at)
  places_of_lem (file.Spells.element {p} {n} {rs = rs} {qs} e c b) g at =
      let r : Record = R.Key p n in
      ap (λ (l : List ℕ). at ∷ l)
      (places_both (marks c 0 1 (at + size r)) (marks_of b (at + size r + length (laid rs))) (at + size r) rs qs
      (places_are c (right_left s rs qs g.2) 0 1 (at + size r)) (places_of_lem b (right_right s rs qs g.2) (at + size r + length (laid rs))))
      ∙ sym (key_yes at r (rs ++ qs) refl)

-- ---- the public call's keys

module _ (image s : List ℕ) {t : Tree Sort.value} (w : Writable image s t) where
  -- in the order of reading: no record of a key is left out, and none has two marks
  pub one_mark_each : places_of (keys image s w) ≡ key_places 0 w.images.records
  one_mark_each = places_are s w.images.spells w.images.right 0 1 0

  pub marks_rise : (i j : ℕ) → i < j → j < length (keys image s w) → (get_or (keys image s w) i nothing).key < (get_or (keys image s w) j nothing).key
  marks_rise = climb_less (keys image s w) 0 (rw one_mark_each (climbs 0 w.images.records))

module _ (image s : List ℕ) {f : Lso} (w : file.Writable image s f) where
  pub file_one_mark_each : places_of (file_keys image s w) ≡ key_places 0 (head image s w ∷ w.images.records)
  file_one_mark_each =
      let z : size (head image s w) ≡ 0 + size (head image s w) = omega arith in
      places_of_lem s w.images.spells w.images.right (size (head image s w)) ∙ ap (λ (n : ℕ). key_places n w.images.records) z
      ∙ sym (key_no 0 (head image s w) w.images.records refl)

  pub file_marks_rise : (i j : ℕ) → i < j → j < length (file_keys image s w)
      → (get_or (file_keys image s w) i nothing).key < (get_or (file_keys image s w) j nothing).key
  file_marks_rise = climb_less (file_keys image s w) 0 (rw file_one_mark_each (climbs 0 (head image s w ∷ w.images.records)))

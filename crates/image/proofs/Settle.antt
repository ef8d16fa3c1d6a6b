-- What a reading that was carried out comes to, as `Whole` has it: the bytes of its records, and how it ends.
use Rattle.std.specs.Prelude.{◌+◌, ◌≤◌, ◌<◌, ◌≡◌, ◌⊎◌, ◌≢◌, ◌++◌}
use Rattle.wire.proofs.Kit.{ℕ, refl, sym, ap, ◌∙◌, inl, inr, ⊎_elim, le-leb, lt-leb, List, [], append_assoc, append-nil, arith, length, take, drop}
use Rattle.wire.proofs.Kit.{length-append, sets, sets-eq, take_at, length-sets, length-take-le, leb, eqb, leb-true, leb-false, eqb-true, eqb-false, ne_eqb}
use Rattle.wire.specs.Field.{to}
use Rattle.wire.specs.declared.cursor.Cursor.{Cursor}
use Rattle.wire.proofs.Laws.{pick_yes, pick_no, picked, then_sets, same_answer, same_place}
use Rattle.image.specs.declared.record.Record.{Record}
use Rattle.image.specs.Record.{bytes_of, size}
use Rattle.image.specs.Due.{Due, end, stop, seen, due, ◌>>=◌, Ends, Stops, Lacks, on_end, Ran, ran, run, Step, went_to}
use Rattle.image.specs.Whole.{bytes, Whole, accepted, refused, in_room, settled, finished, all}
use Rattle.image.proofs.Laws.{size_bytes}
use Rattle.wire.specs.Answer.{denied}
use Rattle.wire.proofs.Same.{ok_first, ok_second}

-- ---- how a reading ends

pub ends_or_stops : (d : Due) → ((n : ℕ) × Ends d n) ⊎ ((a : ℕ) × (p : ℕ) × Stops d a p)
ends_or_stops (end n) = inl (n, refl)
ends_or_stops (stop a p) = inr (a, p, (refl, refl))
ends_or_stops (seen fact d) = ends_or_stops d
ends_or_stops (due r p d) = ends_or_stops d

module _ {A : Type 0} where
  pub on_ends : (d : Due) (n : ℕ) (f : ℕ → A) (g : ℕ → ℕ → A) → Ends d n → on_end d f g ≡ f n
  on_ends (end m) n f g e = ap f (sym e)
  on_ends (stop a p) n f g e = absurd e
  on_ends (seen fact d) n f g e = on_ends d n f g e
  on_ends (due r p d) n f g e = on_ends d n f g e

  pub on_stops : (d : Due) (a p : ℕ) (f : ℕ → A) (g : ℕ → ℕ → A) → Stops d a p → on_end d f g ≡ g a p
  on_stops (end m) a p f g e = absurd e
  on_stops (stop b q) a p f g e = rw (e.0, e.1)
  on_stops (seen fact d) a p f g e = on_stops d a p f g e
  on_stops (due r q d) a p f g e = on_stops d a p f g e

  pub on_case : (P : A → Type 0) (d : Due) (f : ℕ → A) (g : ℕ → ℕ → A) → ((n : ℕ) → Ends d n → P (f n)) → ((a p : ℕ) → Stops d a p → P (g a p))
      → P (on_end d f g)
  on_case P (end n) f g h i = h n refl
  on_case P (stop a p) f g h i = i a p (refl, refl)
  on_case P (seen fact d) f g h i = on_case P d f g h i
  on_case P (due r p d) f g h i = on_case P d f g h i

pub one_end : (d : Due) {m n : ℕ} → Ends d m → Ends d n → m ≡ n
one_end (end q) e f = e ∙ sym f
one_end (stop a p) e f = absurd e
one_end (seen fact d) e f = one_end d e f
one_end (due r p d) e f = one_end d e f

pub one_stop : (d : Due) {a p b q : ℕ} → Stops d a p → Stops d b q → (a ≡ b) × (p ≡ q)
one_stop (end n) e f = absurd e
one_stop (stop c o) e f = (e.0 ∙ sym f.0, e.1 ∙ sym f.1)
one_stop (seen fact d) e f = one_stop d e f
one_stop (due r w d) e f = one_stop d e f

pub ends_not : (d : Due) (n a p : ℕ) → Ends d n → Stops d a p → ⊥
ends_not (end m) n a p e f = f
ends_not (stop b q) n a p e f = e
ends_not (seen fact d) n a p e f = ends_not d n a p e f
ends_not (due r w d) n a p e f = ends_not d n a p e f

-- one reading and then another, where the first ends
pub bytes_bind : (d : Due) (k : ℕ → Due) (n : ℕ) → Ends d n → bytes (d >>= k) ≡ bytes d ++ bytes (k n)
unfolding bytes
bytes_bind (end m) k n e = rw e
bytes_bind (stop a p) k n e = absurd e
bytes_bind (seen fact d) k n e = bytes_bind d k n e
bytes_bind (due r p d) k n e = ap (λ x. bytes_of r ++ x) (bytes_bind d k n e) ∙ sym (append_assoc (bytes_of r) (bytes d) (bytes (k n)))

pub stops_behind : (d : Due) (k : ℕ → Due) (n a p : ℕ) → Ends d n → Stops (k n) a p → Stops (d >>= k) a p
stops_behind (end m) k n a p e h = rw (← e) h
stops_behind (stop b q) k n a p e h = absurd e
stops_behind (seen fact d) k n a p e h = stops_behind d k n a p e h
stops_behind (due r q d) k n a p e h = stops_behind d k n a p e h

-- ---- a reading carried out, with room and without

pub run_fits : (d : Due) (made : ℕ) (image : List ℕ) → made + length (bytes d) ≤ length image
    → run d made image ≡ ran (on_end d (λ n. went_to (to n) (made + length (bytes d))) denied) (sets image made (bytes d))
unfolding run bytes
run_fits (end n) made image h = ap (λ m. ran (went_to (to n) m) image) (omega arith)
run_fits (stop a p) made image h = refl
run_fits (seen fact d) made image h = run_fits d made image h
run_fits (due r p d) made image h =
    let l = length-append (bytes_of r) (bytes d) in
    let b = size_bytes r in
    let same : made + size r + length (bytes d) ≡ made + length (bytes_of r ++ bytes d) = omega arith in
    pick_yes (made + size r) (length image) _ _ (omega arith)
    ∙ run_fits d (made + size r) (sets image made (bytes_of r)) (omega (arith, length-sets image made (bytes_of r)))
    ∙ rw (same, then_sets image made (made + size r) (bytes_of r) (bytes d) (omega arith))

-- ---- the first record that has no room

pub either : {P : Type 0} (m n : ℕ) → (m ≤ n → P) → (n < m → P) → P
either {P} m n f g = picked {A = ℕ} (λ z. P) (leb m n) 0 0 (λ e. f (leb-true m n e)) (λ e. g (leb-false m n e))

-- there is one just where the records have more bytes than the room
pub lacks_over : (d : Due) (made room p : ℕ) → Lacks d made room p → room < made + length (bytes d)
unfolding bytes
lacks_over (end n) made room p h = absurd h
lacks_over (stop a q) made room p h = absurd h
lacks_over (seen fact d) made room p h = lacks_over d made room p h
lacks_over (due r q d) made room p h =
    let l = length-append (bytes_of r) (bytes d) in
    let b = size_bytes r in
    ⊎_elim (λ x. omega (arith, x.0)) (λ x. omega (arith, lacks_over d (made + size r) room p x.1)) h

pub over_lacks : (d : Due) (made room : ℕ) → made ≤ room → room < made + length (bytes d) → (p : ℕ) × Lacks d made room p
unfolding bytes
over_lacks (end n) made room g h = absurd (omega arith)
over_lacks (stop a q) made room g h = absurd (omega arith)
over_lacks (seen fact d) made room g h = over_lacks d made room g h
over_lacks (due r q d) made room g h =
    let l = length-append (bytes_of r) (bytes d) in
    let b = size_bytes r in
    either (made + size r) room
    (λ f. let x = over_lacks d (made + size r) room f (omega arith) in (x.0, inr (f, x.1)))
    (λ f. (q, inl (f, refl)))

-- and one alone
pub one_lack : (d : Due) (made room : ℕ) {p q : ℕ} → Lacks d made room p → Lacks d made room q → p ≡ q
one_lack (end n) made room g h = absurd g
one_lack (stop a w) made room g h = absurd g
one_lack (seen fact d) made room g h = one_lack d made room g h
one_lack (due r w d) made room g h =
    ⊎_elim (λ x. ⊎_elim (λ y. x.1 ∙ sym y.1) (λ y. absurd (omega (arith, x.0, y.0))) h)
    (λ x. ⊎_elim (λ y. absurd (omega (arith, x.0, y.0))) (λ y. one_lack d (made + size r) room x.1 y.1) h) g

-- something holds of every record and the place at which it is due
abbrev pub AllDue : (Record → ℕ → Type 0) → Due → Type 0
AllDue P (end n) = Unit {0}
AllDue P (stop a p) = Unit {0}
AllDue P (seen fact d) = AllDue P d
AllDue P (due r p d) = P r p × AllDue P d

pub due_map : {P Q : Record → ℕ → Type 0} (d : Due) → ((r : Record) (p : ℕ) → P r p → Q r p) → AllDue P d → AllDue Q d
due_map (end n) f h = tt
due_map (stop a p) f h = tt
due_map (seen fact d) f h = due_map d f h
due_map (due r p d) f h = (f r p h.0, due_map d f h.1)

pub due_bind : (P : Record → ℕ → Type 0) (d : Due) (k : ℕ → Due) → AllDue P d → ((n : ℕ) → Ends d n → AllDue P (k n)) → AllDue P (d >>= k)
due_bind P (end n) k h f = f n refl
due_bind P (stop a p) k h f = h
due_bind P (seen fact d) k h f = due_bind P d k h f
due_bind P (due r p d) k h f = (h.0, due_bind P d k h.1 f)

-- so of the first that has no room, and its place
pub due_lacks : (P : Record → ℕ → Type 0) (d : Due) (made room p : ℕ) → AllDue P d → Lacks d made room p → (r : Record) × P r p
due_lacks P (end n) made room p h l = absurd l
due_lacks P (stop a q) made room p h l = absurd l
due_lacks P (seen fact d) made room p h l = due_lacks P d made room p h l
due_lacks P (due r q d) made room p h l = ⊎_elim (λ x. (r, rw x.1 h.0)) (λ x. due_lacks P d (made + size r) room p h.1 x.1) l

-- the reading carried out stops there
pub run_lacks : (d : Due) (made : ℕ) (image : List ℕ) {p : ℕ} → Lacks d made (length image) p → (run d made image).step ≡ denied 4 p
unfolding run
run_lacks (end n) made image h = absurd h
run_lacks (stop a q) made image h = absurd h
run_lacks (seen fact d) made image h = run_lacks d made image h
run_lacks (due r q d) made image {p} h =
    ⊎_elim (λ x. rw (lt-leb (made + size r) (length image) x.0) (ap (denied 4) (sym x.1)))
    (λ x.
    let i : List ℕ = sets image made (bytes_of r) in
    let more : Lacks d (made + size r) (length i) p = rw (length-sets image made (bytes_of r)) x.1 in
    rw (le-leb (made + size r) (length image) x.0) (run_lacks d (made + size r) i more)) h

-- a reading that goes on has laid all its bytes, and ends there
pub run_went : (d : Due) (made : ℕ) (image : List ℕ) {c : Cursor} {m : ℕ} {i : List ℕ} → ran (went_to c m) i ≡ run d made image
    → (m ≡ made + length (bytes d)) × Ends d c.at
unfolding run bytes
run_went (end n) made image {c} {m} e =
    let s : went_to c m ≡ went_to (to n) made = ap (λ (x : Ran). x.step) e in
    let same : c ≡ to n = ok_first s in
    let more : m ≡ made = ok_second s in
    (omega arith, ap (λ (x : Cursor). x.at) same)
run_went (stop a p) made image {c} {m} e =
    let s : went_to c m ≡ denied a p = ap (λ (x : Ran). x.step) e in
    let z : ◌≡◌ {A = ℕ} 0 1 = cc in
    absurd (omega arith)
run_went (seen fact d) made image e = run_went d made image e
run_went (due r p d) made image {c} {m} {i} e =
    picked (λ (x : Ran). ran (went_to c m) i ≡ x → (m ≡ made + length (bytes_of r ++ bytes d)) × Ends d c.at) (leb (made + size r) (length image)) _ _
    (λ t f.
    let w = run_went d (made + size r) (sets image made (bytes_of r)) f in
    (omega (arith, size_bytes r, length-append (bytes_of r) (bytes d), w.0), w.1))
    (λ t f.
    let s : went_to c m ≡ denied 4 p = ap (λ (x : Ran). x.step) f in
    let z : ◌≡◌ {A = ℕ} 0 1 = cc in
    absurd (omega arith)) e

-- and one that stops, but not for room, is refused so
pub run_stopped : (d : Due) (made : ℕ) (image : List ℕ) {a p : ℕ} {i : List ℕ} → ran (denied a p) i ≡ run d made image → a ≢ 4 → Stops d a p
unfolding run
run_stopped (end n) made image {a} {p} e ne =
    let s : denied a p ≡ went_to (to n) made = ap (λ (x : Ran). x.step) e in
    let z : ◌≡◌ {A = ℕ} 0 1 = cc in
    absurd (omega arith)
run_stopped (stop b q) made image {a} {p} e ne =
    let s : denied a p ≡ denied b q = ap (λ (x : Ran). x.step) e in
    (same_answer s, same_place s)
run_stopped (seen fact d) made image e ne = run_stopped d made image e ne
run_stopped (due r q d) made image {a} {p} {i} e ne =
    picked (λ (x : Ran). ran (denied a p) i ≡ x → Stops d a p) (leb (made + size r) (length image)) _ _
    (λ t f. run_stopped d (made + size r) (sets image made (bytes_of r)) f ne)
    (λ t f. let s : denied a p ≡ denied 4 q = ap (λ (x : Ran). x.step) f in absurd (ne (same_answer s))) e

-- ---- what it comes to

-- the answer of a result, and the bytes that it used or its place
abbrev pub answer_of_lem : Whole → ℕ
answer_of_lem w = w.reading.answer

abbrev pub used_of : Whole → ℕ
used_of w = w.reading.used

abbrev ending : Ran → Whole
ending x = finished x.step x.image

pub take_sets : (l : List ℕ) (i : ℕ) (x y : List ℕ) → i + length (x ++ y) ≤ length l → take (i + length x) (sets l i (x ++ y)) ≡ take i l ++ x
take_sets l i x y h =
    let n = length-append x y in
    let same : (take i l ++ (x ++ y)) ++ drop (i + length (x ++ y)) l ≡ (take i l ++ x) ++ (y ++ drop (i + length (x ++ y)) l) = simp append_assoc in
    rw (sets-eq (x ++ y) l i h) (ap (take (i + length x)) same ∙ take_at (take i l ++ x) (y ++ drop (i + length (x ++ y)) l) (i + length x) (rw (length-append, length-take-le i l (omega arith))))

module _ (f : ℕ → List ℕ → Whole) (g : ℕ → ℕ → Whole) where
  -- a reading with room for all its records
  pub in_room_fits : (room : ℕ) (b : List ℕ) (d : Due) → length b + length (bytes d) ≤ room → in_room room b d f g ≡ on_end d (λ n. f n (b ++ bytes d)) g
  unfolding in_room bytes
  in_room_fits room b (end n) h = ap (f n) (sym (append-nil b))
  in_room_fits room b (stop a p) h = refl
  in_room_fits room b (seen fact d) h = in_room_fits room b d h
  in_room_fits room b (due r p d) h =
      let l = length-append (bytes_of r) (bytes d) in
      let m = length-append b (bytes_of r) in
      let k = size_bytes r in
      pick_yes (length b + size r) room _ _ (omega arith)
      ∙ (in_room_fits room (b ++ bytes_of r) d (omega arith) ∙ rw (append_assoc b (bytes_of r) (bytes d)))

  -- and without
  pub in_room_lacks : (room : ℕ) (b : List ℕ) (d : Due) {p : ℕ} → Lacks d (length b) room p → in_room room b d f g ≡ refused 4 p
  unfolding in_room
  in_room_lacks room b (end n) h = absurd h
  in_room_lacks room b (stop a q) h = absurd h
  in_room_lacks room b (seen fact d) h = in_room_lacks room b d h
  in_room_lacks room b (due r q d) {p} h =
      ⊎_elim (λ x. pick_no (length b + size r) room _ _ x.0 ∙ ap (refused 4) (sym x.1))
      (λ x.
      let same : length b + size r ≡ length (b ++ bytes_of r) = omega (arith, length-append b (bytes_of r), size_bytes r) in
      pick_yes (length b + size r) room _ _ x.0 ∙ in_room_lacks room (b ++ bytes_of r) d (rw same at x.1)) h

-- what a reading comes to whose records, with the bytes b, have room
abbrev pub ended : Due → List ℕ → Whole
ended d b = on_end d (λ n. accepted n b) refused

module _ (d : Due) (room : ℕ) where
  pub settled_fits : length (bytes d) ≤ room → settled d room ≡ ended d (bytes d)
  settled_fits h = in_room_fits accepted refused room [] d (omega arith)

  pub settled_lacks : {p : ℕ} → Lacks d 0 room p → settled d room ≡ refused 4 p
  settled_lacks h = in_room_lacks accepted refused room [] d h

-- a refusal before any record
pub settled_stop : (a p room : ℕ) → settled (stop a p) room ≡ refused a p
unfolding in_room
settled_stop a p room = refl

-- where there is room
ended_ran : (d : Due) (m : ℕ) (i b : List ℕ) → take m i ≡ b → m ≡ length b → finished (on_end d (λ n. went_to (to n) m) denied) i ≡ ended d b
ended_ran (end n) m i b e l = rw (e, l)
ended_ran (stop a p) m i b e l = refl
ended_ran (seen fact d) m i b e l = ended_ran d m i b e l
ended_ran (due r p d) m i b e l = ended_ran d m i b e l

-- from an empty image
pub finished_run : (d : Due) (image : List ℕ) → finished (run d 0 image).step (run d 0 image).image ≡ settled d (length image)
finished_run d image =
    either (length (bytes d)) (length image)
    (λ h.
    ap ending (run_fits d 0 image (omega arith))
    ∙ (ended_ran d (0 + length (bytes d)) (sets image 0 (bytes d)) (bytes d) (rw append-nil at (take_sets image 0 (bytes d) [] (rw append-nil (omega arith)))) (omega arith)
    ∙ sym (settled_fits d (length image) h)))
    (λ h.
    let x = over_lacks d 0 (length image) (omega arith) (omega arith) in
    rw (run_lacks d 0 image x.1) (sym (settled_lacks d (length image) x.1)))

-- the same of a step that is known to be what the reading comes to
pub finished_ran : (d : Due) (image : List ℕ) {x : Step} {i : List ℕ} → ran x i ≡ run d 0 image → finished x i ≡ settled d (length image)
finished_ran d image e = ap ending e ∙ finished_run d image

-- ---- an input that has to be used to its end

module _ (s : List ℕ) where
  pub all_refused : (a p : ℕ) → a ≢ 0 → all s (refused a p) ≡ refused a p
  all_refused a p h = rw (ne_eqb a 0 h)

  module _ (w : Whole) where
    pub all_left : w.reading.answer ≡ 0 → w.reading.used < length s → all s w ≡ refused 3 w.reading.used
    all_left a l = rw a (pick_no (length s) w.reading.used _ _ l)

    pub all_used : w.reading.answer ≡ 0 → length s ≤ w.reading.used → all s w ≡ w
    all_used a l = rw a (pick_yes (length s) w.reading.used _ _ l)

    pub all_cases : (P : Whole → Type 0) → (w.reading.answer ≢ 0 → P w) → (w.reading.answer ≡ 0 → w.reading.used < length s → P (refused 3 w.reading.used))
        → (w.reading.answer ≡ 0 → length s ≤ w.reading.used → P w) → P (all s w)
    all_cases P f g h =
        picked P (eqb w.reading.answer 0) _ _
        (λ a. picked P (leb (length s) w.reading.used) _ _ (λ l. h (eqb-true _ 0 a) (leb-true _ _ l)) (λ l. g (eqb-true _ 0 a) (leb-false _ _ l)))
        (λ a. f (eqb-false _ 0 a))

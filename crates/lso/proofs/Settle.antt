-- What the file's reading comes to, as `Reading` has it: the bytes of the records that it keeps, with room also for those of the element that it drops.
use Rattle.std.specs.Prelude.{◌+◌, ◌≤◌, ◌≡◌, ◌++◌, Ok, Err}
use Rattle.wire.proofs.Kit.{ℕ, refl, sym, ap, ◌∙◌, ⊎_elim, List, [], append_assoc, append-nil, Bool, true, false, arith, length}
use Rattle.wire.proofs.Kit.{take, length-append, sets, length-sets, leb, eqb}
use Rattle.wire.specs.Choice.{pick}
use Rattle.wire.specs.Field.{to}
use Rattle.wire.specs.Limit as limit
use Rattle.image.specs.Due.{Due, Ends, Stops, Ran, ran, run, on_end, Step, went_to}
use Rattle.image.specs.Whole.{bytes, Whole, accepted, refused, finished}
use Rattle.image.proofs.Laws.{run_then, run_halt}
use Rattle.image.proofs.Settle.{either, ends_or_stops, on_ends, on_stops, one_end, bytes_bind, stops_behind, over_lacks, run_fits, run_lacks, run_went, in_room_fits, in_room_lacks, take_sets}
use Rattle.lso.specs.Reading.{header_at, Element, Body, body_at, kept, due_in, ever_due, halted, settle, incomplete_of}
use Rattle.lso.specs.Code.{dropped, run_body, bodied, run_file}
use Rattle.lso.proofs.Body.{header_stops, Row, behind}
use Rattle.wire.specs.Answer.{denied}

abbrev comes : Ran → Whole
comes x = finished x.step x.image

-- ---- the body

module _ {s : List ℕ} (d : Due) where
  -- all that falls due in it
  row_bytes_lem : {at n : ℕ} {es : List Element} → Row s at es n → bytes (due_in es d) ≡ kept es ++ bytes d
  row_bytes_lem Row.none = refl
  row_bytes_lem (Row.more {e} {es} t r) =
      bytes_bind e.read (λ n. due_in es d) e.next (rw t.read t.ends)
      ∙ ap (λ x. bytes e.read ++ x) (row_bytes_lem r) ∙ sym (append_assoc (bytes e.read) (kept es) (bytes d))

  row_stops : {at n : ℕ} {es : List Element} (a p : ℕ) → Row s at es n → Stops d a p → Stops (due_in es d) a p
  row_stops a p Row.none h = h
  row_stops a p (Row.more {e} {es} t r) h = stops_behind e.read (λ n. due_in es d) e.next a p (rw t.read t.ends) (row_stops a p r h)

-- an element that stops leaves the made part as it was
drops : (a p at made : ℕ) (h image : List ℕ) → take made image ≡ h → made ≡ length h → comes (dropped (denied a p) image at made) ≡ halted a p (accepted at h)
drops a p at made h image e l = go (eqb a 2) (eqb a 3) (rw (e, l))
  where
    go : (t u : Bool) → comes (ran (went_to (to at) made) image) ≡ accepted at h
        → comes (pick t (ran (went_to (to at) made) image) (pick u (ran (went_to (to at) made) image) (ran (denied a p) image)))
        ≡ pick t (accepted at h) (pick u (accepted at h) (refused a p))
    go true u same = same
    go false true same = same
    go false false same = refl

-- ---- the file

module _ (s : List ℕ) (p : ℕ) (e : Ends (header_at s) p) where
  abbrev b : Body
  b = body_at s (length s) p

  -- the bytes of all that falls due
  pub ever_bytes : bytes (ever_due s p) ≡ bytes (header_at s) ++ (kept (body_at s (length s) p).elements ++ bytes (body_at s (length s) p).tried)
  ever_bytes = bytes_bind (header_at s) _ p e ∙ ap (λ x. bytes (header_at s) ++ x) (row_bytes_lem b.tried (behind s p e).row)

  -- and how it stops
  pub ever_stops : (a q : ℕ) → Stops (body_at s (length s) p).tried a q → Stops (ever_due s p) a q
  ever_stops a q h = stops_behind (header_at s) _ p a q e (row_stops b.tried a q (behind s p e).row h)

  module _ (image : List ℕ) where
    -- without room for all of it
    tight : {q : ℕ} (x : Step) (i : List ℕ) → ran x i ≡ run (header_at s) 0 image → (run (ever_due s p) 0 image).step ≡ denied 4 q
        → comes (bodied x i s) ≡ refused 4 q
    unfolding run_body
    tight {q} (Err x) i r l =
        let same : denied x.answer x.place ≡ denied 4 q = sym (ap (λ (y : Ran). y.step) (run_halt (header_at s) (λ n. due_in b.elements b.tried) 0 image r)) ∙ l in
        let f : x.answer ≡ 4 = cc in
        let g : x.place ≡ q = cc in
        rw (f, g)
    tight {q} (Ok x) i r l =
        let same : (run (due_in b.elements b.tried) x.1 i).step ≡ denied 4 q =
        sym (ap (λ (y : Ran). y.step) (run_then (header_at s) (λ n. due_in b.elements b.tried) 0 image r)) ∙ l in
        rw (one_end (header_at s) (run_went (header_at s) 0 image r).1 e, same)

    -- with room
    roomy : length (bytes (ever_due s p)) ≤ length image
        → comes (bodied (run (header_at s) 0 image).step (run (header_at s) 0 image).image s) ≡ settle s p (length image)
    unfolding run_body
    roomy f =
        let t = behind s p e in
        let d : Due = due_in b.elements b.tried in
        let h : List ℕ = bytes (header_at s) in
        let k : List ℕ = kept b.elements in
        let x : List ℕ = bytes b.tried in
        let i : List ℕ = sets image 0 h in
        let m : ℕ = 0 + length h in
        let n = length-append h (k ++ x) in
        let o = length-append h k in
        let all = ap length ever_bytes in
        let long = length-sets image 0 h in
        let y = row_bytes_lem b.tried t.row in
        let halts : Stops b.tried t.answer t.place = rw t.tried t.stopped in
        let front : take m i ≡ h = rw append-nil at (take_sets image 0 h [] (rw append-nil (omega arith))) in
        let left : Ran → Whole = λ r. comes (bodied r.step r.image s) in
        let later : Ran → Whole = λ r. comes (dropped r.step r.image b.at (m + length k)) in
        let z = on_stops d t.answer t.place (λ n. went_to (to n) (m + length (bytes d))) denied (row_stops b.tried t.answer t.place t.row halts) in
        ap left (run_fits (header_at s) 0 image (omega arith))
        ∙ rw (on_ends (header_at s) p (λ n. went_to (to n) m) denied e)
        (ap later (run_fits d m i (rw y (omega arith)))
        ∙ rw (z, y) (drops t.answer t.place b.at (m + length k) (h ++ k) (sets i m (k ++ x)) (take_sets i m k x (omega arith) ∙ rw front) (omega arith)))
        ∙ sym (in_room_fits accepted _ (length image) [] (ever_due s p) (omega arith) ∙ on_stops (ever_due s p) t.answer t.place _ _ (ever_stops t.answer t.place halts))

    -- behind a header
    headed : comes (bodied (run (header_at s) 0 image).step (run (header_at s) 0 image).image s) ≡ settle s p (length image)
    headed =
        either (length (bytes (ever_due s p))) (length image) roomy
        (λ f.
        let l = over_lacks (ever_due s p) 0 (length image) (omega arith) (omega arith) in
        tight (run (header_at s) 0 image).step (run (header_at s) 0 image).image refl (run_lacks (ever_due s p) 0 image l.1)
        ∙ sym (in_room_lacks accepted _ (length image) [] (ever_due s p) l.1))

module _ (s image : List ℕ) where
  -- the header refused, or read
  begun : comes (bodied (run (header_at s) 0 image).step (run (header_at s) 0 image).image s)
      ≡ on_end (header_at s) (λ p. settle s p (length image)) refused
  begun =
      let d : Due = header_at s in
      let left : Ran → Whole = λ r. comes (bodied r.step r.image s) in
      ⊎_elim (λ e. headed s e.0 e.1 image ∙ sym (on_ends d e.0 _ _ e.1))
      (λ e.
      let none = (header_stops s e.0 e.1 e.2).1 in
      ap left (run_fits d 0 image (omega (arith, ap length none))) ∙ rw (on_stops d e.0 e.1 (λ n. went_to (to n) (0 + length (bytes d))) denied e.2)
      (sym (on_stops d e.0 e.1 _ _ e.2)))
      (ends_or_stops d)

  pub file_settles : finished (run_file s image).step (run_file s image).image ≡ incomplete_of s (length image)
  unfolding run_file incomplete_of
  file_settles = both (leb (length s) limit.bytes) _ _ _ _ begun refl
    where
      both : (t : Bool) (x y : Ran) (w v : Whole) → comes x ≡ w → comes y ≡ v → comes (pick t x y) ≡ pick t w v
      both true x y w v e f = e
      both false x y w v e f = f

  -- the same of a step that is known to be what the reading comes to
  pub incomplete_ran : {x : Step} {i : List ℕ} → ran x i ≡ run_file s image → finished x i ≡ incomplete_of s (length image)
  incomplete_ran e = ap comes e ∙ file_settles

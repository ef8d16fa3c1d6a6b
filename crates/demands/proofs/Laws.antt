-- What follows for any reader and any writer from what its contract says.
use Rattle.std.specs.Prelude.{◌-◌, ◌*◌, ◌≤◌, ◌<◌, ◌≡◌, ◌≢◌, ◌⊎◌, ◌↔◌, ◌++◌}
use Rattle.wire.proofs.Kit.{ℕ, refl, sym, ap, ap₂, subst, ◌∙◌, ⊎_elim, List, sub-zero, arith, length, take, drop}
use Rattle.wire.proofs.Kit.{replicate, length-append, length-take, length-drop, take-append_seam, drop-append_seam}
use Rattle.wire.specs.Number.{Bytes}
use Rattle.wire.specs.Limit as limit
use Rattle.image.specs.declared.reading.Reading.{Reading}
use Rattle.image.specs.declared.writing.Writing.{Writing}
use Rattle.image.specs.Whole.{Whole, refused}
use Rattle.image.specs.Out.{Written, written, unwritten, onto}
use Rattle.amf0_theorems.proofs.Settled.{Settled}
use Rattle.amf0_theorems.proofs.More.{More}
use Rattle.demands.specs.Before.{unplaced}
use Rattle.demands.specs.Forms.{Reader, Writer, made, sent, put, Answers, WriteAnswers, Reasons, WriteReasons, OverLimit, Just, JustAt, JustAtInRoom, Inside, Roomy, Short, ShortInRoom, WriteJust, Zeros, Past, Untouched, Untouching, Behind, Keeping, Sound, Exactly, Writes, AsBefore, Wider, Rewritten, Room, Enough, Unrefused, SameRoom, Trips, Sent, Again, Returns, Same}
use Rattle.demands.proofs.Told.{Read, Reads, Putting}

-- ---- a reader

module _ {Call : Reader} {w : List ℕ → ℕ → Whole} (k : Reads Call w) where
  -- it says that it made as many bytes as it comes to
  count : (s i : List ℕ) (r : Reading) (x : List ℕ) → Call s i r x → r.made ≡ length (w s (length i)).bytes
  count s i r x c = ap (λ (q : Reading). q.made) (k.told s i r x c).returns ∙ (k.counts s (length i)).same

  -- what it returned and made is what it comes to
  pub made_is : (s i : List ℕ) (r : Reading) (x : List ℕ) → Call s i r x → made r x ≡ w s (length i)
  made_is s i r x c =
      let t = k.told s i r x c in
      let b = (w s (length i)).bytes in
      let e : take r.made x ≡ b = ap₂ take (count s i r x c) t.leaves ∙ take-append_seam b _ in
      λ j. record { reading = t.returns j; bytes = e j }

  -- it accepts where what it comes to does
  accepted : (s i : List ℕ) (r : Reading) (x : List ℕ) → Call s i r x → r.answer ≡ 0 → (w s (length i)).reading.answer ≡ 0
  accepted s i r x c z = sym (ap (λ (v : Whole). v.reading.answer) (made_is s i r x c)) ∙ z

  -- Its answers are those of what it comes to,
  pub answers : (P : ℕ → Type 0) → ((s : List ℕ) (room : ℕ) → P (w s room).reading.answer) → Answers P Call
  answers P h s i r x c = rw (k.told s i r x c).returns (h s (length i))

  -- and so are its reasons.
  pub reasons : (Comes : List ℕ → ℕ → Whole → Type 0) → ((s : List ℕ) (room : ℕ) → Bytes s → Comes s room (w s room)) → Reasons Comes Call
  reasons Comes h s i r x bs c = rw (made_is s i r x c) (h s (length i) bs)

  -- What it refuses for the limit is over the limit.
  pub over_limit : ((s : List ℕ) (room : ℕ) → (w s room).reading.answer ≡ 1 ↔ limit.bytes < length s) → OverLimit Call
  over_limit h s i r x c = rw (k.told s i r x c).returns (h s (length i))

  -- What is roomy is that to it.
  pub roomy : ((s : List ℕ) (room : ℕ) → 3 * length s ≤ room → (w s room).reading.answer ≢ 4) → Roomy Call
  roomy h s i r x c l z = h s (length i) l (sym (ap (λ (q : Reading). q.answer) (k.told s i r x c).returns) ∙ z)

  -- It gives an answer just where what it comes to has that,
  pub just : (a : ℕ) (Why : List ℕ → ℕ → Type 0)
      → ((s : List ℕ) (room : ℕ) → Bytes s → length s ≤ limit.bytes → (w s room).reading.answer ≡ a ↔ Why s room) → Just a Why Call
  just a Why h s i r x bs l c = rw (k.told s i r x c).returns (h s (length i) bs l)

  -- where that says the limit too,
  pub just_within : (a : ℕ) (Why : List ℕ → Type 0)
      → ((s : List ℕ) (room : ℕ) → Bytes s → (w s room).reading.answer ≡ a ↔ (length s ≤ limit.bytes) × Why s) → Just a (λ s room. Why s) Call
  just_within a Why h = just a (λ s room. Why s) λ s room bs l. let e = h s room bs in (λ z. (e.0 z).1, λ y. e.1 (l, y))

  -- and a refusal where that is this refusal, at this place,
  module _ (a : ℕ) (some : a ≢ 0)
      (empty : (s : List ℕ) (room : ℕ) → (w s room).reading.answer ≢ 0 → w s room ≡ refused (w s room).reading.answer (w s room).reading.used) where
    refused_at : (s i : List ℕ) (r : Reading) (x : List ℕ) (p : ℕ) {Why : Type 0} → Call s i r x → w s (length i) ≡ refused a p ↔ Why
        → (r.answer ≡ a) × (r.used ≡ p) ↔ Why
    refused_at s i r x p c t =
        let v = w s (length i) in
        let e : r.answer ≡ v.reading.answer = ap (λ (q : Reading). q.answer) (k.told s i r x c).returns in
        let u : r.used ≡ v.reading.used = ap (λ (q : Reading). q.used) (k.told s i r x c).returns in (
          λ z.
              let f : v.reading.answer ≡ a = sym e ∙ z.0 in
              t.0 (empty s (length i) (λ o. some (sym f ∙ o)) ∙ ap₂ refused f (sym u ∙ z.1)),
          λ y. let g = t.1 y in (e ∙ ap (λ (q : Whole). q.reading.answer) g, u ∙ ap (λ (q : Whole). q.reading.used) g),
        )

    pub just_at : (Why : List ℕ → ℕ → ℕ → Type 0)
        → ((s : List ℕ) (room p : ℕ) → Bytes s → length s ≤ limit.bytes → w s room ≡ refused a p ↔ Why s room p) → JustAt a Why Call
    just_at Why h s i r x p bs l c = refused_at s i r x p c (h s (length i) p bs l)

    -- or where that is so in a room that is not refused.
    pub just_at_in_room : (Why : List ℕ → ℕ → Type 0)
        → ((s : List ℕ) (room p : ℕ) → Bytes s → length s ≤ limit.bytes → (w s room).reading.answer ≢ 4 → w s room ≡ refused a p ↔ Why s p)
        → JustAtInRoom a Why Call
    just_at_in_room Why h s i r x p bs l c ne =
        refused_at s i r x p c (h s (length i) p bs l λ z. ne (ap (λ (q : Reading). q.answer) (k.told s i r x c).returns ∙ z))

  -- What it uses, or the place at which it is refused, is inside the input.
  pub inside : ((s : List ℕ) (room : ℕ) → Bytes s → (w s room).reading.used ≤ length s) → Inside Call
  inside h s i r x bs c = rw (k.told s i r x c).returns (h s (length i) bs)

  -- It comes to what it came to before a refusal had a place, but for the place.
  pub as_before : (of : List ℕ → ℕ → Whole) → ((s : List ℕ) (room : ℕ) → unplaced (w s room) ≡ of s room) → AsBefore of Call
  as_before of h s i r x c = ap unplaced (made_is s i r x c) ∙ h s (length i)

  -- a call that comes to a refusal has its answer
  pub answered : (s i : List ℕ) (r : Reading) (x : List ℕ) (a p : ℕ) → Call s i r x → w s (length i) ≡ refused a p → r.answer ≡ a
  answered s i r x a p c e = ap (λ (q : Reading). q.answer) (k.told s i r x c).returns ∙ ap (λ (v : Whole). v.reading.answer) e

  -- A beginning is short in every room,
  pub short : (Is : List ℕ → Type 0)
      → ((s q : List ℕ) (room : ℕ) → Is (s ++ q) → 1 ≤ length q → length s ≤ limit.bytes → (p : ℕ) × (w s room ≡ refused 2 p)) → Short Is Call
  short Is h s q i r x y m l c = let e = h s q (length i) y m l in answered s i r x 2 e.0 c e.1

  -- or in a room that is not refused.
  pub short_in_room : (Is : List ℕ → Type 0)
      → ((s q : List ℕ) (room : ℕ) → Is (s ++ q) → 1 ≤ length q → length s ≤ limit.bytes → (w s room).reading.answer ≢ 4
      → (p : ℕ) × (w s room ≡ refused 2 p))
      → ShortInRoom Is Call
  short_in_room Is h s q i r x y m l c ne =
      let e = h s q (length i) y m l λ z. ne (ap (λ (q : Reading). q.answer) (k.told s i r x c).returns ∙ z) in
      answered s i r x 2 e.0 c e.1

  -- More room changes nothing.
  pub wider : ((s : List ℕ) → More (w s)) → Wider Call
  wider h s i j x y r q c d l ne =
      made_is s j q y d
      ∙ (h s (length i) (length j) l (λ z. ne (ap (λ (q : Reading). q.answer) (k.told s i r x c).returns ∙ z)) ∙ sym (made_is s i r x c))

  -- Where its refusals have no byte, a refused call leaves zeros.
  pub zeros : ((s : List ℕ) (room : ℕ) → (w s room).reading.answer ≢ 0 → w s room ≡ refused (w s room).reading.answer (w s room).reading.used) → Zeros Call
  zeros h s i r x c ne =
      let t = k.told s i r x c in
      let v = w s (length i) in
      let e : v ≡ refused v.reading.answer v.reading.used = h s (length i) λ z. ne (ap (λ (q : Reading). q.answer) t.returns ∙ z) in
      record {
        made = ap (λ (q : Reading). q.made) t.returns ∙ ap (λ (v : Whole). v.reading.made) e;
        zeros = t.leaves ∙ rw e (ap (λ n. replicate n 0) (sub-zero (length i)));
      }

  -- Past what it made the image is zero.
  pub past : Past Call
  past s i r x c =
      let b = (w s (length i)).bytes in
      ap₂ drop (count s i r x c) (k.told s i r x c).leaves ∙ drop-append_seam b _ ∙ ap (λ n. replicate (length i - n) 0) (sym (count s i r x c))

  -- What it accepts means what it comes to means,
  pub sound : (Means : List ℕ → Whole → Type 0) → ((s : List ℕ) (room : ℕ) → Bytes s → (w s room).reading.answer ≡ 0 → Means s (w s room)) → Sound Means Call
  sound Means h s i r x bs c z = rw (made_is s i r x c) (h s (length i) bs (accepted s i r x c z))

  -- and it accepts just what that accepts.
  pub exactly : (Is : List ℕ → Type 0)
      → ((s : List ℕ) (room : ℕ) → Bytes s → length s ≤ limit.bytes → 3 * length s ≤ room → (w s room).reading.answer ≡ 0 ↔ Is s) → Exactly Is Call
  exactly Is h s i r x bs l m c = rw (k.told s i r x c).returns (h s (length i) bs l m)

-- two readings that come to the same in every room
pub same_read : {v w : ℕ → Whole} → ((room : ℕ) → w room ≡ v room) → Same (Read v) (Read w)
same_read h i j x y r q a b l = (rw (l, h) at b.returns ∙ sym a.returns, rw (l, h) at b.leaves ∙ sym a.leaves)

-- ---- a writer

module _ {Call : Writer} {w : List ℕ → List ℕ → ℕ → Written} (k : Putting Call w) where
  -- what it returned and put out is what it comes to
  pub put_is : (i t o : List ℕ) (r : Writing) (y : List ℕ) → Call i t o r y → put r y ≡ w i t (length o)
  put_is i t o r y c =
      let e = k.told i t o r y c in
      go (w i t (length o)) (k.settles i t (length o)) e.returns e.leaves
    where
      go : (v : Written) → Settled (length o) v → r ≡ v.writing → y ≡ onto v.bytes o → put r y ≡ v
      go v (Settled.refused a n) e f = rw e refl
      go v (Settled.put_out b h) e f = rw (e, f, take-append_seam b) refl

  -- an accepted one comes to what it put out
  pub sent_is : (i t o : List ℕ) (r : Writing) (y : List ℕ) → Call i t o r y → r.answer ≡ 0 → w i t (length o) ≡ written (sent r y)
  sent_is i t o r y c z = go (w i t (length o)) (k.settles i t (length o)) (sym (put_is i t o r y c))
    where
      go : (v : Written) → Settled (length o) v → v ≡ put r y → v ≡ written (sent r y)
      go v (Settled.refused a n) e = absurd (n (ap (λ (x : Written). x.writing.answer) e ∙ z))
      go v (Settled.put_out b h) e = ap (λ (x : Written). written x.bytes) e

  -- and where it comes to bytes it is accepted and has put them out
  sent_back : (i t o : List ℕ) (r : Writing) (y : List ℕ) → Call i t o r y → (b : List ℕ) → w i t (length o) ≡ written b → Sent b r y
  sent_back i t o r y c b e =
      let f = put_is i t o r y c ∙ e in
      record {
        answer = ap (λ (v : Written). v.writing.answer) f;
        count = ap (λ (v : Written). v.writing.count) f;
        same = ap (λ (v : Written). v.bytes) f;
      }

  -- Its answers are those of what it comes to,
  pub write_answers : (P : ℕ → Type 0) → ((i t : List ℕ) (room : ℕ) → P (w i t room).writing.answer) → WriteAnswers P Call
  write_answers P h i t o r y c = rw (k.told i t o r y c).returns (h i t (length o))

  -- and so are its reasons.
  pub write_reasons : (Comes : List ℕ → List ℕ → ℕ → Written → Type 0) → ((i t : List ℕ) (room : ℕ) → Bytes i → Comes i t room (w i t room))
      → WriteReasons Comes Call
  write_reasons Comes h i t o r y bs c = rw (put_is i t o r y c) (h i t (length o) bs)

  -- It is refused with 5 or 6 just where what it comes to is that refusal.
  pub write_just : (Refused : List ℕ → List ℕ → ℕ → ℕ → Type 0)
      → ((i t : List ℕ) (room a : ℕ) → Bytes i → length t ≤ limit.bytes → length i ≤ limit.image → (a ≡ 5) ⊎ (a ≡ 6)
      → w i t room ≡ unwritten a ↔ (p : ℕ) × Refused i t a p)
      → WriteJust Refused Call
  write_just Refused h a i t o r y five bs l m c =
      let e : put r y ≡ w i t (length o) = put_is i t o r y c in
      let g = h i t (length o) a bs l m five in (
        λ z. g.0 (go (w i t (length o)) (k.settles i t (length o)) (sym (ap (λ (v : Written). v.writing.answer) e) ∙ z)),
        λ p. ap (λ (v : Written). v.writing.answer) (e ∙ g.1 p),
      )
    where
      go : (v : Written) → Settled (length o) v → v.writing.answer ≡ a → v ≡ unwritten a
      go v (Settled.refused b n) z = ap unwritten z
      go v (Settled.put_out b f) z = absurd (⊎_elim (λ x. omega (arith, z ∙ x)) (λ x. omega (arith, z ∙ x)) five)

  -- A refused call leaves the output as it was.
  pub untouching : Untouching Call
  untouching i t o r y c =
      let e = k.told i t o r y c in
      go (w i t (length o)) (k.settles i t (length o)) e.returns e.leaves
    where
      go : (v : Written) → Settled (length o) v → r ≡ v.writing → y ≡ onto v.bytes o → r.answer ≢ 0 → Untouched o r y
      go v (Settled.refused a n) e f ne = record { count = ap (λ (q : Writing). q.count) e; same = f }
      go v (Settled.put_out b h) e f ne = absurd (ne (ap (λ (q : Writing). q.answer) e))

  -- An accepted one changes the bytes that it counts alone.
  pub keeping : Keeping Call
  keeping i t o r y c =
      let e = k.told i t o r y c in
      go (w i t (length o)) (k.settles i t (length o)) e.returns e.leaves
    where
      go : (v : Written) → Settled (length o) v → r ≡ v.writing → y ≡ onto v.bytes o → r.answer ≡ 0 → Behind o r y
      go v (Settled.refused a n) e f z = absurd (n (rw e at z))
      go v (Settled.put_out b h) e f z =
          rw (e, f)
          (record {
            fits = h;
            long = omega (arith, length-append b (drop (length b) o), length-drop (length b) o);
            same = drop-append_seam b (drop (length b) o);
          })

  -- It accepts just what it comes to accepts.
  pub writes : (Has : List ℕ → List ℕ → ℕ → Type 0) → ((i t : List ℕ) (room : ℕ) → Bytes i → (w i t room).writing.answer ≡ 0 ↔ Has i t room) → Writes Has Call
  writes Has h i t o r y bs c = rw (k.told i t o r y c).returns (h i t (length o) bs)

-- ---- a reading, and the writing of what it made

module _ {Read : Reader} {v : List ℕ → ℕ → Whole} (k : Reads Read v) {Write : Writer} {u : List ℕ → List ℕ → ℕ → Written} (m : Putting Write u) where
  -- the image bytes that the reading made
  made_bytes : (s i : List ℕ) (r : Reading) (x : List ℕ) → Read s i r x → take r.made x ≡ (v s (length i)).bytes
  made_bytes s i r x a = ap (λ (q : Whole). q.bytes) (made_is k s i r x a)

  -- What was read is written, in no more bytes.
  pub rewritten : ((s : List ℕ) (room out : ℕ) → Bytes s → (v s room).reading.answer ≡ 0 → (v s room).reading.used ≤ out → let e = u (v s room).bytes s out in
      (e.writing.answer ≡ 0) × (e.writing.count ≤ (v s room).reading.used)) → Rewritten Read Write
  rewritten h s i o x y r w bs a z b l =
      let t = (k.told s i r x a).returns in
      let e : w ≡ (u (v s (length i)).bytes s (length o)).writing = rw (made_bytes s i r x a) at (m.told (take r.made x) s o w y b).returns in
      rw (e, t) (h s (length i) (length o) bs (accepted k s i r x a z) (rw t at l))

  -- what an accepted write comes to
  comes_to : (s i o x y : List ℕ) (r : Reading) (w : Writing) → Read s i r x → Write (take r.made x) s o w y → w.answer ≡ 0
      → u (v s (length i)).bytes s (length o) ≡ written (sent w y)
  comes_to s i o x y r w a b z = rw (made_bytes s i r x a) at (sent_is m (take r.made x) s o w y b z)

  -- it counts what it put out
  counted : (i t o : List ℕ) (w : Writing) (y : List ℕ) → Write i t o w y → w.answer ≡ 0 → w.count ≡ length (sent w y)
  counted i t o w y c z = ap (λ (q : Written). q.writing.count) (put_is m i t o w y c ∙ sent_is m i t o w y c z)

  module _ {Back : Reader} {b : List ℕ → ℕ → Whole} (n : Reads Back b) where
    -- what a call has for room, of what the calls come to
    given : (Given : Room) (s i o j x y z : List ℕ) (r q : Reading) (w : Writing) → Write (take r.made x) s o w y → w.answer ≡ 0 → Back (sent w y) j q z
        → Given (length i) (length j) w.count q.answer
        → Given (length i) (length j) (length (sent w y)) (b (sent w y) (length j)).reading.answer
    given Given s i o j x y z r q w c f d l =
        subst (λ m. Given (length i) (length j) m (b (sent w y) (length j)).reading.answer) (counted (take r.made x) s o w y c f)
        (subst (Given (length i) (length j) w.count) (ap (λ (p : Reading). p.answer) (n.told (sent w y) j q z d).returns) l)

    -- What was read and written reads back as a round trip.
    pub trips : (Given : Room) (Trip : List ℕ → List ℕ → Whole → Whole → Type 0)
        → ((s c : List ℕ) (room out more : ℕ) → Bytes s → (v s room).reading.answer ≡ 0 → u (v s room).bytes s out ≡ written c
        → Given room more (length c) (b c more).reading.answer → Trip s c (v s room) (b c more))
        → Trips Given Read Write Back Trip
    trips Given Trip h s i o j x y z r q w bs a e c f d l =
        rw (made_is k s i r x a, made_is n (sent w y) j q z d)
        (h s (sent w y) (length i) (length o) (length j) bs (accepted k s i r x a e) (comes_to s i o x y r w a c f)
        (given Given s i o j x y z r q w c f d l))

module _ {Read : Reader} {v : List ℕ → ℕ → Whole} (k : Reads Read v) {Write : Writer} {u : List ℕ → List ℕ → ℕ → Written} (m : Putting Write u)
    {Back : Reader} {b : List ℕ → ℕ → Whole} (n : Reads Back b) where
  -- To read that and write it once more changes nothing more.
  pub again : (Given : Room)
      → ((s c : List ℕ) (room out more once : ℕ) → Bytes s → (v s room).reading.answer ≡ 0 → u (v s room).bytes s out ≡ written c
      → Given room more (length c) (b c more).reading.answer → length c ≤ once → u (b c more).bytes c once ≡ written c)
      → Again Given Read Write Back
  again Given h s i o j f x y z g r q w e bs a e₀ c e₁ d l p l₁ =
      sent_back m (take q.made z) (sent w y) f e g p (sent w y)
      (rw (made_bytes n m (sent w y) j q z d)
      (h s (sent w y) (length i) (length o) (length j) (length f) bs (accepted k s i r x a e₀) (comes_to k m s i o x y r w a c e₁)
      (given k m n Given s i o j x y z r q w c e₁ d l) (omega (arith, length-take w.count y))))

  -- all of it
  pub returns : (Trip : List ℕ → List ℕ → Whole → Whole → Type 0)
      → ((s : List ℕ) (room out : ℕ) → Bytes s → (v s room).reading.answer ≡ 0 → (v s room).reading.used ≤ out → let e = u (v s room).bytes s out in
      (e.writing.answer ≡ 0) × (e.writing.count ≤ (v s room).reading.used))
      → ((s c : List ℕ) (room out more : ℕ) → Bytes s → (v s room).reading.answer ≡ 0 → u (v s room).bytes s out ≡ written c → 3 * length c ≤ more
      → Trip s c (v s room) (b c more))
      → ((s c : List ℕ) (room out more : ℕ) → Bytes s → (v s room).reading.answer ≡ 0 → u (v s room).bytes s out ≡ written c
      → (b c more).reading.answer ≢ 4 → Trip s c (v s room) (b c more))
      → ((s c : List ℕ) (room out : ℕ) → Bytes s → (v s room).reading.answer ≡ 0 → u (v s room).bytes s out ≡ written c → Trip s c (v s room) (b c room))
      → ((s c : List ℕ) (room out more once : ℕ) → Bytes s → (v s room).reading.answer ≡ 0 → u (v s room).bytes s out ≡ written c
      → (b c more).reading.answer ≢ 4 → length c ≤ once → u (b c more).bytes c once ≡ written c)
      → Returns Read Write Back Trip
  returns Trip fewer enough any same once =
      record {
        rewritten = rewritten k m fewer;
        enough = trips k m n Enough Trip enough;
        any_room = trips k m n Unrefused Trip any;
        same_room = trips k m n SameRoom Trip λ s c room out more bs e f l. rw l (same s c room out bs e f);
        again = again Unrefused once;
      }

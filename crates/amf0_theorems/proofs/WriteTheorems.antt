-- The theorems on the writer of values, over what its public call comes to.
use Rattle.std.specs.Prelude.{◌+◌, ◌*◌, ◌≤◌, ◌<◌, ◌≡◌, ◌↔◌, ◌⊎◌, ◌∷◌, ◌++◌}
use Rattle.wire.proofs.Kit.{ℕ, max, refl, sym, ap, ◌∙◌, inl, inr, ⊎_elim, List, [], append-nil, append_assoc}
use Rattle.wire.proofs.Kit.{arith, length, take, take-append-drop, length-take-le, leb}
use Rattle.wire.specs.Number.{Bytes}
use Rattle.wire.specs.Limit as limit
use Rattle.wire.proofs.Laws.{pick_no, picked}
use Rattle.wire.proofs.Stands.{Here}
use Rattle.image.specs.declared.record.Record.{Record}
use Rattle.image.specs.declared.record.Record.TheVariants as R
use Rattle.image.specs.Out.{Written, written, unwritten, sized}
use Rattle.image.specs.Whole.{Whole, bytes}
use Rattle.amf0.specs.Standard.{Item, Sort, Tree, depth, Encodes}
use Rattle.amf0.specs.Shown.{laid, Right}
use Rattle.amf0.specs.Reading as reading
use Rattle.amf0.specs.Reading.{read_of}
use Rattle.amf0.specs.Writing.{top_value, whole, write_of}
use Rattle.amf0.specs.Written.{write, Shortest, Spells, Images, Writable, Over, numbered, Alike, rewrite_of}
use Rattle.amf0.specs.Written.Lead.{keyed, keyless}
use Rattle.amf0_theorems.specs.Unwritten.{Stops, Slot, Begins, Opens, Refuses, Refused, Outcome, OutcomeOf}
use Rattle.amf0_theorems.proofs.Call.{value_bounded}
use Rattle.amf0_theorems.proofs.Alike.{read_alike}
use Rattle.amf0_theorems.proofs.Shortest.{encoded, least}
use Rattle.amf0_theorems.proofs.WriteOutcome.{puts_bytes, image_puts, image_written, read_image, accepted_read, read_all, sized_written, written_sized}
use Rattle.amf0_theorems.proofs.WriteReasons as because
use Rattle.amf0_theorems.proofs.WriteReasons.{call_refusals, stops_once, reasons, only_deep, call_settled, accepted, call_answers, value_refusing}
use Rattle.amf0_theorems.proofs.WriteSound.{image_of}
use Rattle.amf0_theorems.proofs.WriteRefusal.{ends_or_stops, no_front, refused_by}
use Rattle.amf0_theorems.proofs.WriteRefusing.{refuses_by}
use Rattle.amf0_theorems.proofs.Settled.{Settled}
use Rattle.amf0_theorems.proofs.Theorems.{Means, sound, unique}

-- ---- the writing and the standard

-- What a tree that an image can hold is written as encodes it, and none of its encodings is shorter.
pub shortest : (image text : List ℕ) (t : Tree Sort.value) → Images text t image → length image ≤ limit.image → Shortest t (write t)
shortest image text t m h = record { encodes = encoded m.spells m.right (omega (arith, ap length m.lies)); least = λ y e. least e }

-- Within the limits, the image of a tree is written as the shortest encoding of the tree: but 1 where that is over the limit, and 4 where it has no room.
pub written_tree : (image text : List ℕ) (t : Tree Sort.value) (room : ℕ) → Writable image text t
    → (write_of image text room ≡ sized (write t) room) × Shortest t (write t)
written_tree image text t room w = (
  image_written room w.images w.deep w.text_size w.image_size,
  shortest image text t w.images w.image_size,
)

-- No image is that of two trees.
pub one_tree : (image text : List ℕ) (t u : Tree Sort.value) → length image ≤ limit.image → Images text t image → Images text u image → t ≡ u
one_tree image text t u h a b =
    let left : ℕ = max (depth t) (depth u) in
    let same : write t ≡ write u = sym (puts_bytes (image_puts left a λ l. omega arith)) ∙ puts_bytes (image_puts left b λ l. omega arith) in
    (unique t u (write t) (write u) [] [] (shortest image text t a h).encodes (shortest image text u b h).encodes (ap (λ x. x ++ []) same)).0

-- In an 08, values without a key that come before the pairs are properties under "0", "1" and so on.
pub dense_images : (text : List ℕ) (c n : ℕ) (vs : Tree (Sort.values n)) (ps : Tree Sort.properties) (rs qs : List Record)
    → Spells text keyed (Sort.values n) vs rs → Spells text keyed Sort.properties ps qs → Right text (R.EcmaArray c ∷ (rs ++ qs))
    → Images text (Tree.node (Item.ecma_array c) (numbered 0 vs ps)) (laid (R.EcmaArray c ∷ (rs ++ qs)))
dense_images text c n vs ps rs qs a b h =
    record { records = R.EcmaArray c ∷ (rs ++ qs); right = h; spells = Spells.node {i = Item.ecma_array c} refl (keyless_first 0 a b); lies = refl }
  where
    keyless_first : {n : ℕ} {vs : Tree (Sort.values n)} {ps : Tree Sort.properties} {rs qs : List Record} (k : ℕ) → Spells text keyed (Sort.values n) vs rs
        → Spells text keyed Sort.properties ps qs → Spells text (keyless k) Sort.properties (numbered k vs ps) (rs ++ qs)
    keyless_first k Spells.nil b = Spells.pairs b
    keyless_first {qs} k (Spells.cons {rs} {qs = us} v vs) b = rw (append_assoc rs us qs) (Spells.dense v (keyless_first (k + 1) vs b))

-- So the writing puts out the shortest encoding of the 08 with those properties, and then those of the pairs.
pub dense : (text : List ℕ) (c n room : ℕ) (vs : Tree (Sort.values n)) (ps : Tree Sort.properties) (rs qs : List Record)
    → Spells text keyed (Sort.values n) vs rs → Spells text keyed Sort.properties ps qs → Right text (R.EcmaArray c ∷ (rs ++ qs))
    → length text ≤ limit.bytes → length (laid (R.EcmaArray c ∷ (rs ++ qs))) ≤ limit.image
    → let t = Tree.node (Item.ecma_array c) (numbered 0 vs ps) in depth t ≤ limit.levels
    → (write_of (laid (R.EcmaArray c ∷ (rs ++ qs))) text room ≡ sized (write t) room) × Shortest t (write t)
dense text c n room vs ps rs qs a b h i j d =
    written_tree _ text _ room (record { text_size = i; image_size = j; images = dense_images text c n vs ps rs qs a b h; deep = d })

-- ---- what was read, written

-- What an accepted reading makes can be written, as the tree that the bytes used encode.
pub read_writable : (s : List ℕ) (room : ℕ) → (read_of s room).reading.answer ≡ 0 → (m : Means s (read_of s room)) → Writable (read_of s room).bytes s m.tree
read_writable s room e m =
    let r = accepted_read s room e in
    let h : Here s 0 (take (read_of s room).reading.used s) _ = record { same = sym (take-append-drop (read_of s room).reading.used s) } in
    record { text_size = r.text_size; image_size = r.image_size; images = rw r.made (read_image m.encodes h m.deep r.text_size); deep = m.deep }

fewer : (s : List ℕ) (room : ℕ) (m : Means s (read_of s room)) → length (write m.tree) ≤ (read_of s room).reading.used
fewer s room m = omega (arith, least m.encodes, length-take-le (read_of s room).reading.used s m.used)

-- What was read is written, where the output has as much room as the bytes used: as the shortest encoding of the tree read, in no more bytes.
pub accepted_write : (s : List ℕ) (room out : ℕ) → (read_of s room).reading.answer ≡ 0 → (read_of s room).reading.used ≤ out → (m : Means s (read_of s room))
    → (rewrite_of s room out ≡ written (write m.tree)) × (length (write m.tree) ≤ (read_of s room).reading.used)
accepted_write s room out e h m =
    let l = fewer s room m in
    let w = read_writable s room e m in (
      (written_tree (read_of s room).bytes s m.tree out w).0 ∙ sized_written (write m.tree) out (omega (arith, m.used, w.text_size)) (omega arith),
      l,
    )

-- an acceptance of all of b, which encodes the tree t, with an image of that tree
pub record ReadsBack (b : List ℕ) (t : Tree Sort.value) (w : Whole) : Type 0 where
  pub answer : w.reading.answer ≡ 0
  pub used : w.reading.used ≡ length b
  pub encodes : Encodes Sort.value t b
  pub writable : Writable w.bytes b t

-- What is written reads back, given room, as the tree of the image.
pub written_back : (image text b : List ℕ) (t : Tree Sort.value) (out more : ℕ) → Writable image text t → write_of image text out ≡ written b
    → 3 * length b ≤ more → ReadsBack b t (read_of b more)
written_back image text b t out more w f h =
    let x = written_tree image text t out w in
    let g = written_sized (write t) out b (sym x.0 ∙ f) in
    let e : Encodes Sort.value t b = rw g.same x.1.encodes in
    let l : length b ≤ limit.bytes = rw g.same g.small in
    rw (read_all more e w.deep l h)
    (record {
      answer = refl;
      used = refl;
      encodes = e;
      writable =
          record { text_size = l; image_size = omega (arith, (value_bounded b).small); images = read_image e (record { same = sym (append-nil b) }) w.deep l; deep = w.deep };
    })

-- And to write that once more puts out the same bytes.
pub written_again : (image text b : List ℕ) (t : Tree Sort.value) (out more once : ℕ) → Writable image text t → write_of image text out ≡ written b
    → 3 * length b ≤ more → length b ≤ once → rewrite_of b more once ≡ written b
written_again image text b t out more once w f h i =
    let g = written_sized (write t) out b (sym (written_tree image text t out w).0 ∙ f) in
    let r = written_back image text b t out more w f h in
    (written_tree (read_of b more).bytes b t once r.writable).0 ∙ (ap (λ x. sized x once) (sym g.same) ∙ sized_written b once r.writable.text_size i)

-- b, all of which w reads back as the tree t, is no longer than x, which encodes t too, and the images of both, over s and over b, differ in the places of
-- texts alone
pub record Trip (s x b : List ℕ) (t : Tree Sort.value) (image : List ℕ) (w : Whole) : Type 0 where
  pub back : ReadsBack b t w
  pub fewer : length b ≤ length x
  pub alike : Alike s b image w.bytes

-- The image that a reading makes of a tree which stands anywhere in s, written in full, reads back, given room, as the same tree.
pub trip : {image s x r : List ℕ} {at : ℕ} {t : Tree Sort.value} (b : List ℕ) (out more : ℕ) → image ≡ bytes (reading.top_value s at) → Encodes Sort.value t x
    → Here s at x r → Writable image s t → write_of image s out ≡ written b → 3 * length b ≤ more → Trip s x b t image (read_of b more)
trip {image} {s} {t} b out more made e h w f i =
    let g = written_sized (write t) out b (sym (written_tree image s t out w).0 ∙ f) in
    let r = written_back image s b t out more w f i in
    record {
      back = r;
      fewer = rw g.same (least e);
      alike =
          rw (made, (accepted_read b more r.answer).made)
          (read_alike e h r.encodes (record { same = sym (append-nil b) }) w.deep w.text_size r.writable.text_size);
    }

-- w, a reading of b, and v, one of s, mean the same tree, b is no longer than the bytes of s used, and the images differ in the places of texts alone
pub record RoundTrip (s b : List ℕ) (v w : Whole) : Type 0 where
  pub tree : Tree Sort.value
  pub before : Encodes Sort.value tree (take v.reading.used s)
  pub image : Images s tree v.bytes
  pub back : ReadsBack b tree w
  pub fewer : length b ≤ v.reading.used
  pub alike : Alike s b v.bytes w.bytes

-- A tree that was read and then written in full reads back, given room, as the same tree, texts and number bits included, in no more bytes than were used.
pub round_trip : (s b : List ℕ) (room out more : ℕ) → Bytes s → (read_of s room).reading.answer ≡ 0 → rewrite_of s room out ≡ written b → 3 * length b ≤ more
    → RoundTrip s b (read_of s room) (read_of b more)
round_trip s b room out more bs e f h =
    let m = sound s room bs e in
    let w = read_writable s room e m in
    let n : ℕ = (read_of s room).reading.used in
    let t = trip b out more (accepted_read s room e).made m.encodes (record { same = sym (take-append-drop n s) }) w f h in
    record {
      tree = m.tree;
      before = m.encodes;
      image = w.images;
      back = t.back;
      fewer = omega (arith, t.fewer, length-take-le n s m.used);
      alike = t.alike;
    }

-- To read that and write it once more changes nothing more.
pub again : (s b : List ℕ) (room out more once : ℕ) → Bytes s → (read_of s room).reading.answer ≡ 0 → rewrite_of s room out ≡ written b → 3 * length b ≤ more
    → length b ≤ once → rewrite_of b more once ≡ written b
again s b room out more once bs e f =
    let m = sound s room bs e in
    written_again (read_of s room).bytes s b m.tree out more once (read_writable s room e m) f

-- ---- the answers

-- The answer is one of 0, 1, 4, 5 and 6.
pub write_answers : (image text : List ℕ) (room : ℕ)
    → let a = (write_of image text room).writing.answer in (a ≡ 0) ⊎ ((a ≡ 1) ⊎ ((a ≡ 4) ⊎ ((a ≡ 5) ⊎ (a ≡ 6))))
write_answers image text room = call_answers image text room (whole image (top_value image text 0)) (value_refusing image text)

-- The writing is refused with an answer at a place exactly where the records before it begin a tree, and what stands there is not what is due and gives
-- that answer.
pub refusal : (image text : List ℕ) (a p : ℕ) → Bytes image → Stops (whole image (top_value image text 0)) a p ↔ Refused image text a p
refusal image text a p bs = (refused_by text image bs a p, refuses_by text image bs a p)

-- An image is refused with one answer, at one place.
pub one_refusal : (image text : List ℕ) (a b p q : ℕ) → Bytes image → Refused image text a p → Refused image text b q → (a ≡ b) × (p ≡ q)
one_refusal image text a b p q bs x y = stops_once (whole image (top_value image text 0)) a b p q (refuses_by text image bs a p x) (refuses_by text image bs b q y)

-- The empty image, which is that of no tree, is refused with 6 at its start, and with nothing else.
pub empty_image : (text : List ℕ) (a p : ℕ) → Refused [] text a p ↔ (a ≡ 6) × (p ≡ 0)
empty_image text a p = (λ x. one_refusal [] text a 6 p 0 tt x none, λ e. rw (e.0, e.1) none)
  where
    none : Refused [] text 6 0
    none =
        record {
          records = [];
          rest = [];
          slot = Slot.value limit.levels;
          lies = refl;
          stands = refl;
          right = tt;
          opens = Opens.inside Begins.value;
          refuses = Refuses.value (record { none = λ r i f e. no_front f });
        }

-- The image of a tree is refused with 5 only, and only where the tree is too deep.
pub refused_image : (image text : List ℕ) (a p : ℕ) (t : Tree Sort.value) → Bytes image → Refused image text a p → Images text t image
    → (a ≡ 5) × (limit.levels < depth t)
refused_image = because.refused_image

-- An image is that of a tree that is not too deep, or it is refused at a place.
pub tree_or_refusal : (image text : List ℕ) → Bytes image
    → ((t : Tree Sort.value) × Images text t image × (depth t ≤ limit.levels)) ⊎ ((a : ℕ) × (p : ℕ) × Refused image text a p)
tree_or_refusal image text bs =
    ⊎_elim (λ e. inl (image_of text image bs limit.levels e.0 e.1)) (λ e. inr (e.0, e.1, refused_by text image bs e.0 e.1 e.2))
    (ends_or_stops (whole image (top_value image text 0)))

-- A call is refused for a size, by what stands at a place of the image, or for the room; else it puts out what the tree is written as.
pub write_reasons : (image text : List ℕ) (room : ℕ) → Bytes image → Outcome image text room (write_of image text room)
write_reasons = reasons

-- Within the limits, a call is refused with 5, or with 6, exactly where the image is so refused by what stands at a place.
pub write_refusals : (image text : List ℕ) (room a : ℕ) → Bytes image → length text ≤ limit.bytes → length image ≤ limit.image → (a ≡ 5) ⊎ (a ≡ 6)
    → write_of image text room ≡ unwritten a ↔ (p : ℕ) × Refused image text a p
write_refusals image text room a bs h i o =
    call_refusals image text (whole image (top_value image text 0)) room a (Refused image text a) (value_refusing image text) h i o λ p.
    refusal image text a p bs

-- The answer is 1 exactly where the text or the image is over its limit, or the image is that of a tree whose bytes are.
pub write_over : (image text : List ℕ) (room : ℕ) → Bytes image → (write_of image text room).writing.answer ≡ 1 ↔ Over image text
write_over image text room bs = (go (write_of image text room) (reasons image text room bs), back)
  where
    go : (w : Written) → Outcome image text room w → w.writing.answer ≡ 1 → Over image text
    go w (OutcomeOf.text_over h) e = Over.text_over h
    go w (OutcomeOf.image_over h) e = Over.image_over h
    go w (OutcomeOf.wrong h i f) e = absurd (omega arith)
    go w (OutcomeOf.too_deep h i f) e = absurd (omega arith)
    go w (OutcomeOf.output_over m h) e = Over.output_over m h
    go w (OutcomeOf.no_room m h i) e = absurd (omega arith)
    go w (OutcomeOf.put_out m h i) e = absurd (omega arith)

    back : Over image text → (write_of image text room).writing.answer ≡ 1
    back (Over.text_over h) = rw (pick_no (length text) limit.bytes _ _ h) refl
    back (Over.image_over h) =
        picked (λ (w : Written). w.writing.answer ≡ 1) (leb (length text) limit.bytes) _ _
        (λ i. rw (pick_no (length image) limit.image _ _ h) refl) (λ i. refl)
    back (Over.output_over {t} m h) =
        ap (λ (w : Written). w.writing.answer) ((written_tree image text t room m).0 ∙ pick_no (length (write t)) limit.bytes _ _ h)

-- A write is accepted exactly where the image is that of a tree whose bytes are within the limit and the room.
pub write_accepted : (image text : List ℕ) (room : ℕ) → Bytes image → (write_of image text room).writing.answer ≡ 0
    ↔ (t : Tree Sort.value) × Writable image text t × (length (write t) ≤ limit.bytes) × (length (write t) ≤ room)
write_accepted image text room bs =
    accepted (write_of image text room) (reasons image text room bs) λ t w. (written_tree image text t room w).0

-- Within the limits, the image of a tree that is too deep is refused with 5.
pub write_deep : (image text : List ℕ) (t : Tree Sort.value) (room : ℕ) → Bytes image → length text ≤ limit.bytes → length image ≤ limit.image
    → Images text t image → limit.levels < depth t → write_of image text room ≡ unwritten 5
write_deep image text t room bs h i m d =
    only_deep (write_of image text room) (reasons image text room bs) h i other (λ p f. let e = refused_image image text 6 p t bs f m in omega (arith, e.0))
  where
    other : (u : Tree Sort.value) → Writable image text u → ⊥
    other u w = let e = ap depth (one_tree image text t u i m w.images) in omega (arith, w.deep)

-- A refused write counts 0 and has no byte of an output; an accepted one counts the bytes that it has of it, and they have room.
pub write_settled : (image text : List ℕ) (room : ℕ) → Settled room (write_of image text room)
write_settled image text room = call_settled image text room (whole image (top_value image text 0)) (value_refusing image text)

-- What the public write comes to on the image of a tree, and that a reading makes such an image.
use Rattle.std.specs.Prelude.{◌*◌, ◌≤◌, ◌<◌, ◌≡◌, ◌++◌}
use Rattle.wire.proofs.Kit.{ℕ, refl, sym, ap, ◌∙◌, List, [], append-nil, zero-add, arith, length, leb, leb-true}
use Rattle.wire.specs.Choice.{pick}
use Rattle.wire.specs.Limit as limit
use Rattle.wire.proofs.Laws.{pick_yes, picked}
use Rattle.wire.proofs.Stands.{Here}
use Rattle.image.specs.Due.{Due}
use Rattle.image.specs.Whole.{Whole, accepted}
use Rattle.image.specs.Whole as read
use Rattle.image.proofs.Settle.{on_ends}
use Rattle.image.specs.Out.{Out, end, stop, bytes, ended, settled, Written, written, sized}
use Rattle.amf0.specs.Standard.{Sort, Tree, depth, Encodes}
use Rattle.amf0.specs.Reading as reading
use Rattle.amf0.specs.Reading.{read_of}
use Rattle.amf0.specs.Writing.{value, whole, write_of}
use Rattle.amf0.specs.Written.{write, Images}
use Rattle.amf0_theorems.proofs.Telling.{reads}
use Rattle.amf0_theorems.proofs.Call.{value_bounded, call_roomy, call_takes}
use Rattle.amf0_theorems.proofs.Puts.{Puts, then, puts}
use Rattle.amf0_theorems.proofs.Spelling.{images, shown}

-- ---- a writing that is not refused

pub puts_bytes : {d : Out} {x : List ℕ} {n : ℕ} → Puts ⊥ d x n → bytes d ≡ x
unfolding bytes
puts_bytes Puts.done = refl
puts_bytes (Puts.more {b} p) = ap (λ y. b ++ y) (puts_bytes p)
puts_bytes (Puts.shut e) = absurd e

puts_ended : {d : Out} {x : List ℕ} {n : ℕ} → Puts ⊥ d x n → (b : List ℕ) (room : ℕ) → ended d b room ≡ sized b room
unfolding ended
puts_ended Puts.done b room = refl
puts_ended (Puts.more p) b room = puts_ended p b room
puts_ended (Puts.shut e) b room = absurd e

pub puts_settled : {d : Out} {x : List ℕ} {n : ℕ} → Puts ⊥ d x n → (room : ℕ) → settled d room ≡ sized x room
unfolding settled
puts_settled {d} p room = puts_ended p (bytes d) room ∙ ap (λ b. sized b room) (puts_bytes p)

pub puts_whole : (image : List ℕ) {D : Type 0} {d : Out} {x : List ℕ} {n : ℕ} → Puts D d x n → length image ≤ n → Puts D (whole image d) x n
puts_whole image {D} {d} {x} {n} p h =
    rw (append-nil x) at (then {y = []} {n = n} (λ m. pick (leb (length image) m) (end m) (stop 6 m)) p (rw (pick_yes (length image) n (end n) (stop 6 n) h) Puts.done))

-- ---- the image of a tree

-- it is put out as what the tree is written as, or the tree is too deep
pub image_puts : {image s : List ℕ} {t : Tree Sort.value} {D : Type 0} (left : ℕ) → Images s t image → (left < depth t → D)
    → Puts D (whole image (value left image s 0)) (write t) (length image)
image_puts {image} {s} left m d =
    let l = ap length m.lies in
    let h : Here image 0 _ [] = record { same = m.lies ∙ sym (append-nil _) } in
    puts_whole image (puts s image m.spells m.right [] 0 (length image) left (length image) h (omega arith) d (omega arith)) (omega arith)

-- the call on it is not refused for what it holds
pub image_written : {image s : List ℕ} {t : Tree Sort.value} (room : ℕ) → Images s t image → depth t ≤ limit.levels → length s ≤ limit.bytes
    → length image ≤ limit.image → write_of image s room ≡ sized (write t) room
image_written {image} {s} room m d h i =
    pick_yes (length s) limit.bytes _ _ h
    ∙ (pick_yes (length image) limit.image _ _ i ∙ puts_settled (image_puts limit.levels m λ l. omega arith) room)

-- ---- the image that a reading makes

pub read_image : {s x r : List ℕ} {at : ℕ} {t : Tree Sort.value} → Encodes Sort.value t x → Here s at x r → depth t ≤ limit.levels → length s ≤ limit.bytes
    → Images s t (read.bytes (reading.top_value s at))
read_image {s} {r} {at} e h d l = images (shown s r at e h d l)

-- an accepted call makes the records of its reading, which are within the limit and the room
pub record Read (s : List ℕ) (room : ℕ) (w : Whole) : Type 0 where
  pub text_size : length s ≤ limit.bytes
  pub made : w.bytes ≡ read.bytes (reading.top_value s 0)
  pub image_size : length w.bytes ≤ limit.image
  pub fits : length w.bytes ≤ room

pub accepted_read : (s : List ℕ) (room : ℕ) → (read_of s room).reading.answer ≡ 0 → Read s room (read_of s room)
accepted_read s room e =
    let t = call_takes s (reading.top_value s 0) room (value_bounded s) e in
    let made = ap (λ (w : Whole). w.bytes) t.result in
    record {
      text_size = t.small;
      made = made;
      image_size = omega (arith, ap length made, (value_bounded s).small, t.small);
      fits = omega (arith, ap length made, t.fits);
    }

-- an encoding is read to its end
pub read_all : {b : List ℕ} {t : Tree Sort.value} (room : ℕ) → Encodes Sort.value t b → depth t ≤ limit.levels → length b ≤ limit.bytes → 3 * length b ≤ room
    → read_of b room ≡ accepted (length b) (read.bytes (reading.top_value b 0))
read_all {b} room e d l h =
    let g : Due = reading.top_value b 0 in
    let r = reads limit.levels b [] 0 e (record { same = sym (append-nil b) }) d in
    call_roomy b g room l (omega (arith, (value_bounded b).small)) ∙ on_ends g (length b) _ _ (rw zero-add at r.ends)

-- ---- bytes in a room

pub sized_written : (x : List ℕ) (room : ℕ) → length x ≤ limit.bytes → length x ≤ room → sized x room ≡ written x
sized_written x room h i = pick_yes (length x) limit.bytes _ _ h ∙ pick_yes (length x) room _ _ i

-- bytes that were put out
pub record Fitted (x : List ℕ) (room : ℕ) (b : List ℕ) : Type 0 where
  pub same : b ≡ x
  pub small : length x ≤ limit.bytes
  pub fits : length x ≤ room

pub written_sized : (x : List ℕ) (room : ℕ) (b : List ℕ) → sized x room ≡ written b → Fitted x room b
written_sized x room b =
    let P : Written → Type 0 = λ w. w ≡ written b → Fitted x room b in
    picked P (leb (length x) limit.bytes) _ _
    (λ h. picked P (leb (length x) room) _ _
    (λ i e. record { same = ap (λ (w : Written). w.bytes) (sym e); small = leb-true _ _ h; fits = leb-true _ _ i })
    (λ i e. absurd (omega (arith, ap (λ (w : Written). w.writing.answer) e))))
    (λ h e. absurd (omega (arith, ap (λ (w : Written). w.writing.answer) e)))

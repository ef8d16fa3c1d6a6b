-- More room changes nothing, and bytes left over change one answer: the laws for any call that settles a reading in a room.
use Rattle.std.specs.Prelude.{◌+◌, ◌≤◌, ◌≡◌, ◌≢◌, ◌↔◌}
use Rattle.wire.proofs.Kit.{ℕ, refl, sym, ap, ◌∙◌, subst, List, [], Bool, true, false, arith, length}
use Rattle.wire.specs.Choice.{pick}
use Rattle.image.specs.Due.{Due, end, stop, seen, due, on_end}
use Rattle.image.specs.Whole.{Whole, bytes, refused, in_room, all}
use Rattle.image.proofs.Settle.{either, over_lacks, in_room_fits, in_room_lacks, all_cases, answer_of_lem}

-- where a room does, every larger room gives the same
abbrev pub More : (ℕ → Whole) → Type 0
More of = (room more : ℕ) → room ≤ more → (of room).reading.answer ≢ 4 → of more ≡ of room

-- a reading in a room
pub in_room_more : (d : Due) (f : ℕ → List ℕ → Whole) (g : ℕ → ℕ → Whole) → More (λ room. in_room room [] d f g)
in_room_more d f g room more h ne =
    either (length (bytes d)) room (λ l. in_room_fits f g more [] d (omega arith) ∙ sym (in_room_fits f g room [] d (omega arith)))
    (λ l.
    let x = over_lacks d 0 room (omega arith) (omega arith) in
    absurd (ne (ap (λ (w : Whole). w.reading.answer) (in_room_lacks f g room [] d x.1))))

-- what follows from where a reading ends
pub end_more : (d : Due) {f : ℕ → ℕ → Whole} (g : ℕ → ℕ → Whole) → ((n : ℕ) → More (f n)) → More (λ room. on_end d (λ n. f n room) g)
end_more (end n) g h room more l ne = h n room more l ne
end_more (stop a p) g h room more l ne = refl
end_more (seen fact d) g h room more l ne = end_more d g h room more l ne
end_more (due r p d) g h room more l ne = end_more d g h room more l ne

-- a test before a call, which does not hang on the room
pub pick_more : (t : Bool) (w : Whole) {of : ℕ → Whole} → More of → More (λ room. pick t (of room) w)
pick_more true w f room more h n = f room more h n
pick_more false w f room more h n = refl

-- a test after a call, which a refusal for room passes
pub pass_more : (f : Whole → Whole) → ((w : Whole) → w.reading.answer ≡ 4 → (f w).reading.answer ≡ 4) → {of : ℕ → Whole} → More of
    → More (λ room. f (of room))
pass_more f four {of} g room more h n = ap f (g room more h λ e. n (four (of room) e))

-- so what a call comes to in all rooms from n on it comes to in every room that is not refused for room
pub any_room : (of : ℕ → Whole) → More of → (P : Whole → Type 0) (n : ℕ) → ((more : ℕ) → n ≤ more → P (of more)) → (room : ℕ)
    → (of room).reading.answer ≢ 4 → P (of room)
any_room of larger P n f room ne = subst P (larger room (room + n) (omega arith) ne) (f (room + n) (omega arith))

-- a reading that has to use all of an input is refused for it with 3 alone: any other answer but 0 has the same reason
pub all_iff : (s : List ℕ) (w : Whole) (a : ℕ) {Q : Type 0} → a ≢ 0 → a ≢ 3 → w.reading.answer ≡ a ↔ Q → (all s w).reading.answer ≡ a ↔ Q
all_iff s w a {Q} zero three x =
    all_cases s w (λ v. v.reading.answer ≡ a ↔ Q) (λ n. x) (λ e l. (λ f. absurd (three (sym f)), λ q. absurd (zero (sym (x.1 q) ∙ e)))) (λ e l. x)

-- so has a refusal with it, at a place
pub all_refusal : (s : List ℕ) (w : Whole) (a p : ℕ) {Q : Type 0} → a ≢ 0 → a ≢ 3 → w ≡ refused a p ↔ Q → all s w ≡ refused a p ↔ Q
all_refusal s w a p {Q} zero three x =
    all_cases s w (λ v. v ≡ refused a p ↔ Q) (λ n. x)
    (λ e l. (λ f. absurd (three (sym (ap answer_of_lem f))), λ q. absurd (zero (sym (ap answer_of_lem (x.1 q)) ∙ e)))) (λ e l. x)

-- The bytes of an index: what holds the keys is one row of bytes alone, zeros where the making is refused, and zeros behind the marks.
use Rattle.std.specs.Prelude.{◌-◌, ◌*◌, ◌≤◌, ◌≡◌, ◌∷◌, ◌≢◌}
use Rattle.wire.proofs.Kit.{ℕ, refl, sym, ap, ◌∙◌, List, [], sub-zero, arith, length, drop, replicate, length-append, drop_at}
use Rattle.image.specs.Whole.{padded}
use Rattle.index.specs.declared.mark.Mark.{Mark}
use Rattle.index.specs.Mark.{mark_bytes, flat}
use Rattle.index.specs.Order.{before}
use Rattle.index.specs.Index.{Indexed, index_of, keys_of, Holds}
use Rattle.index.proofs.Ordering.{total}
use Rattle.index.proofs.Sorting.{sort_of, sorted_is, shuffled_length}
use Rattle.index_theorems.proofs.Refusals.{answer_of}
use Rattle.index_theorems.proofs.Answers.{index_refused, index_outcome, Outcome}

flat_length : (ms : List Mark) → length (flat ms) ≡ 13 * length ms
flat_length [] = refl
flat_length (m ∷ ms) = omega (arith, length-append (mark_bytes m) (flat ms), flat_length ms)

keys_fit_room : (image text : List ℕ) (room : ℕ) → 13 * length (index_of image text room).keys ≤ room
keys_fit_room image text room = go (index_of image text room) (index_outcome image text room)
  where
    go : (w : Indexed) → Outcome image text room (answer_of (keys_of image text)) w → 13 * length w.keys ≤ room
    go w (Outcome.over h) = omega arith
    go w (Outcome.refused t i e) = omega arith
    go w (Outcome.no_room t i e l) = omega arith
    go w (Outcome.made t i e l) = l

module _ (image text : List ℕ) (room : ℕ) where
  -- the keys of the index in order
  abbrev pub in_order_lem : List Mark
  in_order_lem = sort_of (before image text) (index_of image text room).keys

  -- the rows of so many bytes that hold the keys
  abbrev pub Holding : List ℕ → Type 0
  Holding index = Holds image text (index_of image text room).keys index × (length index ≡ room)

  -- Every byte of an index is one alone.
  pub index_bytes : (index : List ℕ) → Holding index → index ≡ padded (flat in_order_lem) room
  index_bytes index (h, size) =
      let k = sorted_is (before image text) (total image text) (index_of image text room).keys h.row h.sorted in
      rw (k, size) at h.bytes

  -- So any two that hold the keys are the same.
  pub index_determined : (i j : List ℕ) → Holding i → Holding j → i ≡ j
  index_determined i j a b = index_bytes i a ∙ sym (index_bytes j b)

  -- A refusal leaves zeros.
  pub index_zero : (index : List ℕ) → Holding index → (index_of image text room).answer ≢ 0 → index ≡ replicate room 0
  unfolding sort_of
  index_zero index p ne = index_bytes index p ∙ rw (index_refused image text room ne) (ap (λ (n : ℕ). replicate n 0) (sub-zero room))

  -- The marks of an index have room in it, and behind them there are zeros.
  pub count_fits : (index : List ℕ) → Holding index → let n = 13 * length (index_of image text room).keys in
      (n ≤ length index) × (drop n index ≡ replicate (length index - n) 0)
  count_fits index (h, size) =
      let n : ℕ = 13 * length (index_of image text room).keys in
      let f : length (flat h.row) ≡ n = omega (arith, flat_length h.row, shuffled_length h.sorted.same) in (
        omega (arith, keys_fit_room image text room),
        ap (drop n) h.bytes ∙ drop_at (flat h.row) _ n f ∙ ap (λ (k : ℕ). replicate (length index - k) 0) f,
      )

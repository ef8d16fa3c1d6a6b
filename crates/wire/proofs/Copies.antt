-- Copies by parts that meet or overlap.
use Rattle.std.specs.Prelude.{◌+◌, ◌-◌, ◌*◌, ◌≤◌, ◌<◌, ◌≡◌, ◌∷◌}
use Rattle.wire.proofs.Kit.{ℕ, zero, suc, refl, sym, ap, ◌∙◌, List, [], arith, length, get_or, take, set, length-take}
use Rattle.wire.proofs.Kit.{length-drop, sets, set_comm, set-set, take-length, drop-cons, length-take-le, towards_suc}
use lib.Seq.{take-add}
use Rattle.wire.specs.Number.{number}
use Rattle.wire.specs.Field.{bytes_at}
use Rattle.wire.proofs.Laws.{then_sets}

-- a store in front of a run of stores can come before it
set_below : (l : List ℕ) (i j b : ℕ) (a : List ℕ) → j < i → set (sets l i a) j b ≡ sets (set l j b) i a
set_below l i j b [] h = refl
set_below l i j b (x ∷ a) h =
    set_below (set l i x) (suc i) j b a (omega arith) ∙ ap (λ (k : List ℕ). sets k (suc i) a) (set_comm l i j x b (λ e. omega arith))

-- a run of stores is gone where another, as long or longer, follows at the same place
sets_over : (l : List ℕ) (i : ℕ) (a b : List ℕ) → length a ≤ length b → sets (sets l i a) i b ≡ sets l i b
sets_over l i [] b h = refl
sets_over l i (x ∷ a) [] h = absurd (omega arith)
sets_over l i (x ∷ a) (y ∷ b) h =
    rw (set_below (set l i x) (suc i) i y a (omega arith), set-set l i x y) (sets_over (set l i y) (suc i) a b (omega arith))

module _ (row : List ℕ) where
  -- the bytes of a row from a place on, one by one
  abbrev pub loads : ℕ → ℕ → List ℕ
  loads zero i = []
  loads (suc w) i = get_or row i 0 ∷ loads w (suc i)

  -- what straight-line loads give is a part of the row
  pub bytes_loads : (w i : ℕ) → i + w ≤ length row → bytes_at w row i ≡ loads w i
  bytes_loads zero i h = refl
  bytes_loads (suc w) i h = rw (drop-cons row i 0 (omega arith), bytes_loads w (suc i) (omega arith))

  -- the first b + w bytes laid: the first b, and then w more
  laid_parts : (w b at : ℕ) (out : List ℕ) → b ≤ length row
      → sets out at (take (b + w) row) ≡ sets (sets out at (take b row)) (at + b) (bytes_at w row b)
  laid_parts w b at out h =
      rw (take-add b w row) (sym (then_sets out at (at + b) (take b row) (bytes_at w row b) (ap (λ (n : ℕ). at + n) (sym (length-take-le b row h)))))

  -- The first a bytes are laid, and then w bytes from a place b on that is no further: so the first b + w are.
  pub laid_on : (w a b at : ℕ) (out : List ℕ) → b ≤ a → a ≤ b + w → b + w ≤ length row
      → sets (sets out at (take a row)) (at + b) (bytes_at w row b) ≡ sets out at (take (b + w) row)
  laid_on w a b at out h g k =
      let e : a ≡ b + (a - b) = omega arith in
      let f : length (bytes_at (a - b) row b) ≤ length (bytes_at w row b) = simp (length-take, length-drop) (omega arith) in
      rw (e, laid_parts (a - b) b at out (omega arith), laid_parts w b at out (omega arith))
      (sets_over (sets out at (take b row)) (at + b) (bytes_at (a - b) row b) (bytes_at w row b) f)

  -- the same up to the row's end
  pub laid_last : (w a b at : ℕ) (out : List ℕ) → b ≤ a → a ≤ b + w → b + w ≡ length row
      → sets (sets out at (take a row)) (at + b) (bytes_at w row b) ≡ sets out at row
  laid_last w a b at out h g e = laid_on w a b at out h g (omega arith) ∙ rw (e, take-length row)

  -- one byte more, or the last one again
  pub byte_on : (a b at : ℕ) (out : List ℕ) → b ≤ a → a ≤ b + 1 → b < length row
      → set (sets out at (take a row)) (at + b) (get_or row b 0) ≡ sets out at (take (b + 1) row)
  byte_on a b at out h g k = rw (bytes_loads 1 b (omega arith)) at (laid_on 1 a b at out h g (omega arith))

-- the number in four bytes, and in eight: sums of the bytes
pub number_four : (s : List ℕ) (at : ℕ) → at + 4 ≤ length s
    → number (bytes_at 4 s at) ≡ get_or s at 0 * 0x1000000 + get_or s (at + 1) 0 * 0x10000 + get_or s (at + 2) 0 * 0x100 + get_or s (at + 3) 0
number_four s at h = rw (bytes_loads s 4 at h) (simp towards_suc (omega arith))

pub number_eight : (s : List ℕ) (at : ℕ) → at + 8 ≤ length s
    → number (bytes_at 8 s at) ≡ number (bytes_at 4 s at) * 0x100000000 + number (bytes_at 4 s (at + 4))
number_eight s at h = rw (bytes_loads s 8 at h, bytes_loads s 4 at (omega arith), bytes_loads s 4 (at + 4) (omega arith)) (simp towards_suc (omega arith))

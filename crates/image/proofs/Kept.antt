-- A reading that goes forward and ends inside the input, lays at most three bytes for each byte that it reads, and is refused with one of some answers, at a
-- place inside the input.
use Rattle.std.specs.Prelude.{◌+◌, ◌*◌, ◌≤◌}
use Rattle.wire.proofs.Kit.{ℕ, List, arith, length, length-append}
use Rattle.image.specs.Record.{bytes_of}
use Rattle.image.specs.Due.{Due, end, stop, seen, due, ◌>>=◌, Ends, Stops}
use Rattle.image.specs.Whole.{bytes}
use Rattle.image.proofs.Settle.{AllDue}

module _ (Named : ℕ → Type 0) (s : List ℕ) where
  -- c bytes are laid already, in all at most three for each byte up to the end; a refusal has one of those answers, at a place inside, and every record is due
  -- at one
  abbrev pub Kept : ℕ → Due → Type 0
  Kept c (end n) = (c ≤ 3 * n) × (n ≤ length s)
  Kept c (stop a p) = (c ≤ 3 * length s) × Named a × (p ≤ length s)
  Kept c (seen fact d) = Kept c d
  Kept c (due r p d) = (p ≤ length s) × Kept (c + length (bytes_of r)) d

  pub fewer : (c b : ℕ) (d : Due) → c ≤ b → Kept b d → Kept c d
  fewer c b (end n) h k = (omega arith, k.1)
  fewer c b (stop a p) h k = (omega arith, k.1, k.2)
  fewer c b (seen fact d) h k = fewer c b d h k
  fewer c b (due r p d) h k = (k.0, fewer (c + length (bytes_of r)) (b + length (bytes_of r)) d (omega arith) k.1)

  pub bind_kept : (c : ℕ) (d : Due) (k : ℕ → Due) → Kept c d → ((n : ℕ) → c ≤ 3 * n → n ≤ length s → Kept (3 * n) (k n)) → Kept c (d >>= k)
  bind_kept c (end n) k h g = fewer c (3 * n) (k n) h.0 (g n h.0 h.1)
  bind_kept c (stop a p) k h g = h
  bind_kept c (seen fact d) k h g = bind_kept c d k h g
  bind_kept c (due r p d) k h g = (h.0, bind_kept (c + length (bytes_of r)) d k h.1 λ n l. g n (omega arith))

  -- ---- what that says of a reading

  pub ends_kept : (c n : ℕ) (d : Due) → Kept c d → Ends d n → (c + length (bytes d) ≤ 3 * n) × (n ≤ length s)
  unfolding bytes
  ends_kept c n (end m) k e = (omega arith, omega arith)
  ends_kept c n (stop a p) k e = absurd e
  ends_kept c n (seen fact d) k e = ends_kept c n d k e
  ends_kept c n (due r p d) k e = let f = ends_kept (c + length (bytes_of r)) n d k.1 e in (omega (arith, length-append (bytes_of r) (bytes d)), f.1)

  -- a refusal is at a place inside, by a field
  pub stops_kept : (c a p : ℕ) (d : Due) → Kept c d → Stops d a p → Named a × (p ≤ length s)
  stops_kept c a p (end n) k e = absurd e
  stops_kept c a p (stop b q) k e = (rw e.0 k.1, rw e.1 k.2)
  stops_kept c a p (seen fact d) k e = stops_kept c a p d k e
  stops_kept c a p (due r q d) k e = stops_kept (c + length (bytes_of r)) a p d k.1 e

  pub small : (c : ℕ) (d : Due) → Kept c d → c + length (bytes d) ≤ 3 * length s
  unfolding bytes
  small c (end n) k = omega arith
  small c (stop a p) k = omega arith
  small c (seen fact d) k = small c d k
  small c (due r p d) k = omega (arith, small (c + length (bytes_of r)) d k.1, length-append (bytes_of r) (bytes d))

  -- every record is due at a place inside
  pub due_inside : (c : ℕ) (d : Due) → Kept c d → AllDue (λ r p. p ≤ length s) d
  due_inside c (end n) k = tt
  due_inside c (stop a p) k = tt
  due_inside c (seen fact d) k = due_inside c d k
  due_inside c (due r p d) k = (k.0, due_inside (c + length (bytes_of r)) d k.1)

-- the same with more answers
pub wider : (M N : ℕ → Type 0) → ((a : ℕ) → M a → N a) → (s : List ℕ) (c : ℕ) (d : Due) → Kept M s c d → Kept N s c d
wider M N f s c (end n) k = k
wider M N f s c (stop a p) k = (k.0, f a k.1, k.2)
wider M N f s c (seen fact d) k = wider M N f s c d k
wider M N f s c (due r p d) k = (k.0, wider M N f s (c + length (bytes_of r)) d k.1)

-- `copy8` meets its contract: four bytes, and the four behind them, which were loaded before.
-- four bytes of a row, and behind them the four that follow
use Rattle.std.specs.Prelude.{◌+◌, ◌≤◌, ◌≡◌, ◌∷◌}
use Rattle.wire.proofs.Kit.{ℕ, List, [], towards_suc, arith, length, get_or, sets}
use Rattle.wire.specs.Field.{bytes_at}
use Rattle.wire.proofs.Copies.{bytes_loads}
use Rattle.wire.proofs.bytes.copy8.Goals as goal

eight : (out row : List ℕ) (to i : ℕ) → i + 8 ≤ length row
    → sets (sets out to (bytes_at 4 row i)) (to + 4) (get_or row (i + 4) 0 ∷ get_or row (i + 5) 0 ∷ get_or row (i + 6) 0 ∷ get_or row (i + 7) 0 ∷ [])
    ≡ sets out to (bytes_at 8 row i)
eight out row to i h = rw (bytes_loads row 4 i (omega arith), bytes_loads row 8 i h) (simp towards_suc)

pub returns : goal.returns
returns c =
    let a = c.args in
    rw (c.store4.ensures, c.copy4.ensures)
    (eight (a.out.now) (a.row.now) (a.at + a.i) a.i (omega arith))

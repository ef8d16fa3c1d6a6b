-- What the functions inside the crate promise each other: how far a sort has come, and how far the walk.
use Rattle.std.specs.Prelude.{ℕ, ◌+◌, ◌*◌, ◌≤◌, ◌≡◌, List, Bool, drop, Option, Some, None}
use Rattle.wire.specs.declared.cursor.Cursor.{Cursor}
use Rattle.image.specs.Due.{Step, went_to}
use Rattle.image.specs.Out.{Out, end, stop, ◌>>=◌}
use Rattle.index.specs.declared.mark.Mark.{Mark}
use Rattle.index.specs.declared.walk.Rest.{Rest}
use Rattle.index.specs.declared.walk.Ahead.{Ahead}
use Rattle.index.specs.Mark.{rows}
use Rattle.index.specs.Sort.{Shuffled, Rising}

-- the same marks in another order, and the bytes behind them as they were
pub record Mixed (n : ℕ) (s t : List ℕ) : Type 0 where
  pub same : Shuffled (rows n s) (rows n t)
  pub behind : drop (13 * n) t ≡ drop (13 * n) s

-- and those below number i in order
pub record Passed (before : Mark → Mark → Bool) (n i : ℕ) (s t : List ℕ) : Type 0 where
  pub mixed : Mixed n s t
  pub rising : Rising before i (rows n t)

-- a step that goes on does so at a place from `low` to `high`, with at most thirteen bytes more for each byte of the image from `low` on
pub record Onward (x : Step) (low high count : ℕ) : Type 0 where
  pub bounds : (c : Cursor) (n : ℕ) → x ≡ went_to c n → (low ≤ c.at) × (c.at ≤ high) × (n + 13 * low ≤ count + 13 * c.at)

-- the walk goes on from the next value, or ends
abbrev pub on_of : Option Ahead → ℕ → (ℕ → Out) → (Rest → ℕ → Out) → Out
on_of (Some (Ahead.Done c)) at inner more = end c.at
on_of (Some (Ahead.Value c n due)) at inner more = inner c.at >>= more due
on_of None at inner more = stop 6 at

abbrev pub count_of : Option Ahead → ℕ → ℕ
count_of (Some (Ahead.Done c)) count = count
count_of (Some (Ahead.Value c n due)) count = n
count_of None count = count

-- where the next value stands, and how many bytes are put out before it
abbrev pub Ready : Option Ahead → ℕ → ℕ → ℕ → Type 0
Ready (Some (Ahead.Done c)) low high count = (low ≤ c.at) × (c.at ≤ high)
Ready (Some (Ahead.Value c n due)) low high count = (low ≤ c.at) × (c.at ≤ high) × (n + 13 * low ≤ count + 13 * c.at)
Ready None low high count = Unit {0}

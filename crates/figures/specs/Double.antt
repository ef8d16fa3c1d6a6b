-- The bits of an IEEE 754 double.
use Rattle.std.specs.Prelude.{ℕ, zero, suc, ◌+◌, ◌-◌, ◌*◌, ◌/◌, ◌%◌, ◌^◌, ◌≤◌, ◌<◌, ◌≡◌, eqb, leb, Option, Some, None}
use Rattle.wire.specs.Choice.{pick}

-- The exponent, from 1 on, and the fraction, with the hidden bit where it has one. A fraction without it has exponent 1.
pub record Parts (bits exponent fraction : ℕ) : Type 0 where
  pub whole : bits % 2 ^ 63 ≡ (exponent - 1) * 2 ^ 52 + fraction
  pub low : 1 ≤ exponent
  pub small : fraction < 2 ^ 53
  pub hidden : 2 ≤ exponent → 2 ^ 52 ≤ fraction

-- n halved so often, where it is even each time
abbrev pub halved_of : ℕ → ℕ → Option ℕ
halved_of n zero = Some n
halved_of n (suc h) = pick (eqb (n % 2) 1) None (halved_of (n / 2) h)

-- fraction * 2 ^ (exponent - 1075), where that is whole and the exponent is not above 1075
unfoldable pub whole_of : ℕ → ℕ → Option ℕ
whole_of exponent fraction = pick (leb exponent 1075) (halved_of fraction (1075 - exponent)) None

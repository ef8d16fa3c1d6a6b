-- The Gregorian calendar from the year 1 on. Days and months count from 0, years from 1.
use Rattle.std.specs.Prelude.{ℕ, zero, suc, ◌+◌, ◌-◌, ◌%◌, ◌<◌, ◌≡◌, eqb}
use Rattle.wire.specs.Choice.{pick}

-- every fourth year has a day more, of the centuries only every fourth
unfoldable pub leap_day : ℕ → ℕ
leap_day y = pick (eqb (y % 100) 0) (pick (eqb (y % 400) 0) 1 0) (pick (eqb (y % 4) 0) 1 0)

-- the days of the first so many years
abbrev pub years_days : ℕ → ℕ
years_days zero = 0
years_days (suc y) = years_days y + (365 + leap_day (suc y))

-- thirty days have the fourth month, the sixth, the ninth and the eleventh
unfoldable pub month_length : ℕ → ℕ → ℕ
month_length y m =
    pick (eqb m 1) (28 + leap_day y)
    (pick (eqb m 3) 30 (pick (eqb m 5) 30 (pick (eqb m 8) 30 (pick (eqb m 10) 30 31))))

-- the days of the first so many months of a year
abbrev pub months_days : ℕ → ℕ → ℕ
months_days y zero = 0
months_days y (suc m) = months_days y m + month_length y m

-- a day, from the first of the year 1 on, is this day of this year
pub record InYear (days year day : ℕ) : Type 0 where
  pub sum : days ≡ years_days (year - 1) + day
  pub within : day < 365 + leap_day year

-- a day of a year is this day of this month
pub record InMonth (year day month left : ℕ) : Type 0 where
  pub sum : day ≡ months_days year month + left
  pub within : left < month_length year month

-- The days of the first so many years, in closed form, and the year of a day.
use Rattle.std.specs.Prelude.{◌+◌, ◌-◌, ◌*◌, ◌/◌, ◌%◌, ◌≤◌, ◌<◌, ◌≡◌}
use Rattle.wire.proofs.Kit.{ℕ, zero, suc, refl, sym, ⊎_elim, arith, eqb, eqb-true, eqb-false}
use native.Mathlib.Nat.{eq-or-lt_of_le, div-add-mod}
use Rattle.wire.proofs.Laws.{picked}
use Rattle.figures.specs.Calendar.{leap_day, years_days, InYear}

le_of_lt_succ : (a b : ℕ) → a < suc b → a ≤ b
le_of_lt_succ a b h = omega arith

-- one year more, and the fourth years, the centuries and the fourth centuries up to it
one_more_4 : (y : ℕ) → suc y % 4 ≡ 0 → suc y / 4 ≡ suc (y / 4)
one_more_4 y h = omega arith

one_more_100 : (y : ℕ) → suc y % 100 ≡ 0 → suc y / 100 ≡ suc (y / 100)
one_more_100 y h = omega arith

one_more_400 : (y : ℕ) → suc y % 400 ≡ 0 → suc y / 400 ≡ suc (y / 400)
one_more_400 y h = omega arith

no_more_4 : (y : ℕ) → (suc y % 4 ≡ 0 → ⊥) → suc y / 4 ≡ y / 4
no_more_4 y h = omega arith

no_more_100 : (y : ℕ) → (suc y % 100 ≡ 0 → ⊥) → suc y / 100 ≡ y / 100
no_more_100 y h = omega arith

no_more_400 : (y : ℕ) → (suc y % 400 ≡ 0 → ⊥) → suc y / 400 ≡ y / 400
no_more_400 y h = omega arith

hundreds_4 : (y : ℕ) → y % 100 ≡ 0 → y % 4 ≡ 0
hundreds_4 y h = omega arith

hundreds_400 : (y : ℕ) → y % 400 ≡ 0 → y % 100 ≡ 0
hundreds_400 y h = omega arith

both : (a b c : ℕ) → 1 + (a + b + suc c) ≡ suc a + suc b + c
both a b c = omega arith

century_only : (a b c : ℕ) → 0 + (a + b + suc c) ≡ suc a + b + c
century_only a b c = omega arith

four_only : (a b c : ℕ) → 1 + (a + b + c) ≡ suc a + b + c
four_only a b c = omega arith

neither : (a b c : ℕ) → 0 + (a + b + c) ≡ a + b + c
neither a b c = omega arith

leap_step : (y : ℕ) → leap_day (suc y) + (y / 4 + y / 400 + suc y / 100) ≡ suc y / 4 + suc y / 400 + y / 100
unfolding leap_day
leap_step y =
    let Goal : ℕ → Type 0 = λ n. n + (y / 4 + y / 400 + suc y / 100) ≡ suc y / 4 + suc y / 400 + y / 100 in
    picked Goal (eqb (suc y % 100) 0) _ _
    (λ h.
    let hundred = eqb-true (suc y % 100) 0 h in
    let four = one_more_4 y (hundreds_4 (suc y) hundred) in
    picked Goal (eqb (suc y % 400) 0) _ _
    (λ g. rw (four, one_more_100 y hundred, one_more_400 y (eqb-true (suc y % 400) 0 g)) (both (y / 4) (y / 400) (y / 100)))
    (λ g. rw (four, one_more_100 y hundred, no_more_400 y (eqb-false (suc y % 400) 0 g)) (century_only (y / 4) (y / 400) (y / 100))))
    (λ h.
    let not_hundred = eqb-false (suc y % 100) 0 h in
    let not_400 : suc y % 400 ≡ 0 → ⊥ = λ g. not_hundred (hundreds_400 (suc y) g) in
    picked Goal (eqb (suc y % 4) 0) _ _
    (λ g. rw (one_more_4 y (eqb-true (suc y % 4) 0 g), no_more_100 y not_hundred, no_more_400 y not_400) (four_only (y / 4) (y / 400) (y / 100)))
    (λ g. rw (no_more_4 y (eqb-false (suc y % 4) 0 g), no_more_100 y not_hundred, no_more_400 y not_400) (neither (y / 4) (y / 400) (y / 100))))

closed_step : (d y l a b c a' b' c' : ℕ) → d + c ≡ 365 * y + a + b → l + (a + b + c') ≡ a' + b' + c → d + (365 + l) + c' ≡ 365 * suc y + a' + b'
closed_step d y l a b c a' b' c' e f = omega arith

closed : (y : ℕ) → years_days y + y / 100 ≡ 365 * y + y / 4 + y / 400
closed zero = refl
closed (suc y) = closed_step (years_days y) y (leap_day (suc y)) (y / 4) (y / 400) (y / 100) (suc y / 4) (suc y / 400) (suc y / 100) (closed y) (leap_step y)

-- the last day of a long year
leap_last : (y : ℕ) → y % 4 ≡ 0 → (y % 100 ≡ 0 → y % 400 ≡ 0) → leap_day y ≡ 1
unfolding leap_day
leap_last y f c =
    picked (λ (n : ℕ). n ≡ 1) (eqb (y % 100) 0) _ _
    (λ h.
    picked (λ (n : ℕ). n ≡ 1) (eqb (y % 400) 0) _ _
    (λ g. refl)
    (λ g. absurd (eqb-false _ _ g (c (eqb-true _ _ h)))))
    (λ h.
    picked (λ (n : ℕ). n ≡ 1) (eqb (y % 4) 0) _ _
    (λ g. refl)
    (λ g. absurd (eqb-false _ _ g f)))

last_of_100 : (f m k : ℕ) → 4 + 4 * f + 100 * m ≡ 100 * k → f ≤ 24 → f ≡ 24
last_of_100 f m k e h =
    let above : m < k = omega arith in
    let below : k ≤ m + 1 = omega arith in
    omega arith

whole_100 : (q c f : ℕ) → (1 + 400 * q + 100 * c + 4 * f + 3) % 100 ≡ 0 → 4 + 4 * f + 100 * (4 * q + c) ≡ 100 * ((1 + 400 * q + 100 * c + 4 * f + 3) / 100)
whole_100 q c f h = omega arith

-- the last day of a long year is in one
long : (q c f : ℕ) → c ≤ 3 → f ≤ 24 → (f ≡ 24 → c ≡ 3) → leap_day (1 + 400 * q + 100 * c + 4 * f + 3) ≡ 1
long q c f d e g =
    leap_last (1 + 400 * q + 100 * c + 4 * f + 3) (omega arith)
    (λ h.
    let f24 = last_of_100 f (4 * q + c) _ (whole_100 q c f h) e in
    let c3 : c ≡ 3 = g f24 in
    omega arith)

by_4 : (q c f n : ℕ) → n ≤ 3 → (400 * q + 100 * c + 4 * f + n) / 4 ≡ 100 * q + 25 * c + f
by_4 q c f n h = omega arith

by_100 : (q c f n : ℕ) → f ≤ 24 → n ≤ 3 → (400 * q + 100 * c + 4 * f + n) / 100 ≡ 4 * q + c
by_100 q c f n g h = omega arith

by_400 : (q c f n : ℕ) → c ≤ 3 → f ≤ 24 → n ≤ 3 → (400 * q + 100 * c + 4 * f + n) / 400 ≡ q
by_400 q c f n e g h = omega arith

less_one : (a b c d : ℕ) → 1 + a + b + c + d - 1 ≡ a + b + c + d
less_one a b c d = omega arith

-- the whole centuries of 400 years, and the days of the last
record Century (o c : ℕ) : Type 0 where
  most : c ≤ 3
  whole : 36524 * c ≤ o
  rest : o - 36524 * c ≤ 36524
  last : o - 36524 * c ≡ 36524 → c ≡ 3

century : (o c : ℕ) → o < 146097 → c ≡ o / 36524 - (o / 36524 - 3) → Century o c
century o c l e = record { most = omega arith; whole = omega arith; rest = omega arith; last = λ h. omega arith }

-- the whole years of four, and the days of the last
record Fours (p n : ℕ) : Type 0 where
  most : n ≤ 3
  whole : 365 * n ≤ p
  rest : p - 365 * n < 366
  last : p - 365 * n ≡ 365 → n ≡ 3

four_years : (p n : ℕ) → p < 1461 → n ≡ p / 365 - (p / 365 - 3) → Fours p n
four_years p n l e = record { most = omega arith; whole = omega arith; rest = omega arith; last = λ h. omega arith }

sum_law : (days q o c h f p n D A B C : ℕ) → days ≡ 146097 * q + o → h ≡ o - 36524 * c → 36524 * c ≤ o → h ≡ 1461 * f + p → 365 * n ≤ p
    → D + A ≡ 365 * (400 * q + 100 * c + 4 * f + n) + B + C → B ≡ 100 * q + 25 * c + f → A ≡ 4 * q + c → C ≡ q → days ≡ D + (p - 365 * n)
sum_law days q o c h f p n D A B C eo eh lh ep lp e eb ea ec = omega arith

-- q times 400 years, c centuries, f times four years, n years, and the days that are left each time
module _ (days q o c h f p n : ℕ) (eo : days ≡ 146097 * q + o) (eh : h ≡ o - 36524 * c) (ep : h ≡ 1461 * f + p) (l : p < 1461) (cc : Century o c) (ff : Fours p n) where
  fours_most : f ≤ 24
  fours_most = omega (arith, cc.rest)

  summed : days ≡ years_days (400 * q + 100 * c + 4 * f + n) + (p - 365 * n)
  summed =
      sum_law days q o c h f p n _ _ _ _ eo eh cc.whole ep ff.whole (closed (400 * q + 100 * c + 4 * f + n))
      (by_4 q c f n ff.most)
      (by_100 q c f n fours_most ff.most)
      (by_400 q c f n cc.most fours_most ff.most)

  lasting : p - 365 * n ≡ 365 → leap_day (1 + 400 * q + 100 * c + 4 * f + n) ≡ 1
  lasting e =
      rw (ff.last e) (long q c f cc.most fours_most
      (λ g.
      let n3 = ff.last e in
      cc.last (omega arith)))

  ends : p - 365 * n < 365 + leap_day (1 + 400 * q + 100 * c + 4 * f + n)
  ends = ⊎_elim (λ e. omega (arith, lasting e)) (λ s. omega (arith, s)) (eq-or-lt_of_le (le_of_lt_succ (p - 365 * n) 365 ff.rest))

  assembled : InYear days (1 + 400 * q + 100 * c + 4 * f + n) (p - 365 * n)
  assembled = record { sum = rw (less_one (400 * q) (100 * c) (4 * f) n) summed; within = ends }

mod_small : (d : ℕ) → d % 146097 < 146097
mod_small d = omega arith

rest_small : (h : ℕ) → h % 1461 < 1461
rest_small h = omega arith

-- the year of a day number, by its parts
pub in_year : (days c n : ℕ) → c ≡ days % 146097 / 36524 - (days % 146097 / 36524 - 3)
    → n ≡ (days % 146097 - 36524 * c) % 1461 / 365 - ((days % 146097 - 36524 * c) % 1461 / 365 - 3)
    → InYear days (1 + 400 * (days / 146097) + 100 * c + 4 * ((days % 146097 - 36524 * c) / 1461) + n) ((days % 146097 - 36524 * c) % 1461 - 365 * n)
in_year days c n ec en =
    let o = days % 146097 in
    let h = o - 36524 * c in
    assembled days (days / 146097) o c h (h / 1461) (h % 1461) n
    (sym (div-add-mod days 146097))
    refl
    (sym (div-add-mod h 1461))
    (rest_small h)
    (century o c (mod_small days) ec)
    (four_years (h % 1461) n (rest_small h) en)

-- The same result of two pairs, or the same choice: each part is the same.
use Rattle.std.specs.Prelude.{◌≡◌, Result, Ok, Option, Some}
use Rattle.wire.proofs.Kit.{ap}

some_of : {A : Type 0} {x y : A} → ◌≡◌ {A = Option A} (Some x) (Some y) → x ≡ y
some_of e = cc

ok_of : {A E : Type 0} {x y : A} → ◌≡◌ {A = Result A E} (Ok x) (Ok y) → x ≡ y
ok_of e = cc

module _ {A B E : Type 0} {a c : A} {b d : B} (e : ◌≡◌ {A = Result (A × B) E} (Ok (a, b)) (Ok (c, d))) where
  pub ok_first : a ≡ c
  ok_first = ap (λ (x : A × B). x.0) (ok_of e)

  pub ok_second : b ≡ d
  ok_second = ap (λ (x : A × B). x.1) (ok_of e)

module _ {A B : Type 0} {a c : A} {b d : B} (e : ◌≡◌ {A = Option (A × B)} (Some (a, b)) (Some (c, d))) where
  pub some_first : a ≡ c
  some_first = ap (λ (x : A × B). x.0) (some_of e)

  pub some_second : b ≡ d
  some_second = ap (λ (x : A × B). x.1) (some_of e)

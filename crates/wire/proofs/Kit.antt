-- What proofs of every crate take from the kit, by one name.
pub use Prim.Native.Nat.{◌≤◌, ℕ, ◌+◌, ◌<◌, ◌-◌, suc, zero, ◌*◌, ◌/◌, ◌^◌, ◌%◌, max}
pub use mathlib.Core.Path.{sym, ◌∙◌, ◌≡◌, refl, ap, ap₂, subst}
pub use mathlib.Core.List.{List, [], ◌∷◌, ◌++◌, append-nil, append_assoc, map, map-append}
pub use mathlib.Core.Bool.{true, Bool, false}
pub use borrow.Author.Rules.{rules}
pub use borrow.Author.Tests.{leb-true, le-leb, ne_eqb, leb-false, lt-leb, eq-eqb, eqb-true, ltb-true, lt-ltb, eqb-false, ltb-false, le-ltb}
pub use borrow.Fn.Kinds.{In, Dens}
pub use borrow.Fn.PlainCycle.{is, Measures, and, falls}
pub use lib.Dec.{leb, eqb, ltb, lit<}
pub use lib.ListN.{length, length-append, drop, get_or, take, replicate, length-drop, length-set, length-take, take-append-drop, set, length-replicate}
pub use lib.ListN.{drop_of_length-le, get_or-eq_default as List·getD-eq-default, length-map}
pub use lib.Seq.{length-take-le, sets, length-sets, take-append_seam, drop-cons, take_at, drop-append_seam, sets-eq, drop-drop, take-append-le, drop-append-le}
pub use lib.Seq.{drop_at, set-set, set_comm, take_all, take-length}
pub use mathlib.Core.Logic.{◌≢◌, inr, inl, ⊎_elim, ◌⊎◌, ◌↔◌}
pub use native.Mathlib.Nat.{le_refl, add-zero, zero-add, div-one, sub-zero, pow-suc, add-sub_cancel_left, add_assoc, suc-add, mod-eq_of_lt}
pub use native.Mathlib.Numerals.{sub-one, towards_suc, add-one}
pub use native.Mathlib.Omega.{arith}

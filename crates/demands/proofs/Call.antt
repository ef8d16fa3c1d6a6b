-- A call of a function that has returned, as the kit has it, and what makes a contract firm.
use Rattle.std.specs.Prelude.{◌≡◌}
use Rattle.wire.proofs.Kit.{ℕ, List, Dens, In}
use contract.Lifetimes.{Lfts}
use borrow.Fn.Kinds.{ParamKind, ResultKind, res_t, ended_of, stays, Out}
use denote.Triple.Clauses.{Lasts, at_exit}
use denote.Triple.Walked.{Fit}

-- A function, by its parameters, its result and its contract's `ensures`.
module _ {n : ℕ} (ps : List (ParamKind n)) (rk : ResultKind n) (Post : Out n ps rk) where
  -- What a call with the arguments a returns, and what it leaves of all that is lent to it: this fits the arguments, so a slice keeps its length, and the
  -- contract holds.
  pub record Returned (κs : Lfts n) (a : Dens κs ps) : Type 0 where
    pub result : (res_t rk κs).Denot
    pub last : Lasts (ended_of n ps rk) κs a
    pub kept : Fit (ended_of n ps rk) (stays ps) κs a last
    pub ensures : Post κs a result (at_exit (ended_of n ps rk) κs a last)

  -- Any two outcomes of a call are the same: what it returns, and every byte of all that is lent to it.
  abbrev pub Determined : Type 0
  Determined = (κs : Lfts n) (a : Dens κs ps) (o p : Returned κs a) → (o.result ≡ p.result) × (o.last ≡ p.last)

-- A caller has nothing to show: there is no `requires`, and whoever has the arguments may call.
abbrev pub Free : {n : ℕ} (ps : List (ParamKind n)) → In n ps → Type 0
Free {n} ps Asked = (κs : Lfts n) (a : Dens κs ps) → Asked κs a

-- A contract asks nothing of its caller, and determines the outcome.
pub record Firm {n : ℕ} (ps : List (ParamKind n)) (rk : ResultKind n) (Asked : In n ps) (Post : Out n ps rk) : Type 0 where
  pub free : Free ps Asked
  pub one : Determined ps rk Post

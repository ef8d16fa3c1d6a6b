-- What the proofs of the functions cite: the laws of readings (`Laws`, `Stands`, `Body`, `Settle`), of writings (`Putting`), and of refusals (`Outcome`). The theorems
-- on the calls are in the crate lso_theorems.
pub mod Laws
pub mod Stands
pub mod Body
pub mod Settle
pub mod Putting
pub mod Outcome

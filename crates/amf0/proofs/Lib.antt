-- What the proofs of the functions cite: the laws of readings (`Laws`, `Rows`), of readings without records (`Counting`), of writings (`Putting`), and of
-- refusals (`Reasons`). The theorems on the calls are in the crate amf0_theorems.
pub mod Laws
pub mod Parts
mod Halted
pub mod Rows
pub mod Putting
pub mod Begun
pub mod Coming
pub mod Reasons
pub mod Counting

-- What the proofs of the functions cite: the laws of readings and of the cut (`Laws`, `Packing`), of a row of entries' numbers (`Rows`), of writings
-- (`Putting`), and of refusals (`Reasons`). The theorems on the calls are in the crate packet_theorems.
pub mod Laws
pub mod Rows
pub mod Packing
pub mod Putting
pub mod Reasons

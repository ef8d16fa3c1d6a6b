-- What the proofs of several functions and of the layers above use.
pub mod Laws
pub mod Settle
pub mod Kept
pub mod Pouring
pub mod Found
pub mod Kinded
pub mod Told

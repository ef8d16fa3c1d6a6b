-- What the contracts of the library cite.
pub mod Calendar
pub mod Double
pub mod Escape

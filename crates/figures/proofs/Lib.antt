pub mod Calendar
pub mod Halving
pub mod Escapes

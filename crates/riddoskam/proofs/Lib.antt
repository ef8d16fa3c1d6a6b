-- The row of a cut beside the lookup by number, and a record put beside one read.
pub mod Rows
pub mod Puts

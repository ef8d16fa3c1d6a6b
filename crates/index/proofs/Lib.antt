pub mod Rows
pub mod Sorting
pub mod Ordering
pub mod Walking
pub mod Finding
pub mod Making

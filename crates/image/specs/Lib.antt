pub mod Kind
pub mod Record
pub mod Due
pub mod Whole
pub mod Taking
pub mod Out
pub mod Building

pub mod Mark
pub mod Order
pub mod Sort
pub mod Keys
pub mod Index
pub mod Find
pub mod Code

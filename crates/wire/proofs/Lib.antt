pub mod Laws
pub mod Same
pub mod Decimal
pub mod Stands
pub mod Rfc3629
mod Steps
mod Copies
pub mod Kit

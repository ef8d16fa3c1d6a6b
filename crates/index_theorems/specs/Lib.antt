pub mod Way
pub mod Stand
pub mod Examples

-- The file as the Rust has it (File), what reading one finds and comes to (Reading), how the two meet (Shown), what writing an image puts out (Writing),
-- and what that means (Written).
pub mod File
pub mod Reading
pub mod Shown
pub mod Code
pub mod Writing
pub mod Written
pub mod WriteExamples

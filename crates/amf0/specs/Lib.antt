-- What reading a value is, by the rules of docs/DEMANDS.md (Marker, Fields, Reading), without records (Survey), by Adobe's document (Standard), and how the two meet (Shown); what
-- writing one is (Shape, Writing), and which bytes those are by Adobe's document (Written). What spans of an input answer, and a change inside them (Span).
pub mod Marker
pub mod Part
pub mod Fields
pub mod Reading
pub mod Survey
pub mod Standard
pub mod Shown
pub mod Span
pub mod Examples
pub mod Shape
pub mod Writing
pub mod Written
pub mod WriteExamples
pub mod Code

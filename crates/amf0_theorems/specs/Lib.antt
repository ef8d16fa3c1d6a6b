-- Which field refuses a reading, and what that makes of the call (Refusal) and of the value in a span (Spans); what
-- stands where a record is due (Due); and which record refuses a write (Unwritten).
pub mod Refusal
pub mod Due
pub mod Spans
pub mod Unwritten

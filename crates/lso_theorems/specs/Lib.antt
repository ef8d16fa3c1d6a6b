-- Which field refuses a file, and what that makes of the two readings (Refusal); what stands where a record is due (Due); and which record refuses a write (Unwritten).
pub mod Refusal
pub mod Unwritten
pub mod Due

-- Which rows of bytes a packet's lengths cut exactly, and which packets have exact lengths (Cuts); which field refuses a packet (Refusal), and what that
-- makes of each call (Why); what stands where a record is due (Due); which record refuses a write (Unwritten);
-- and what the cut was before lengths could be unknown (Before).
pub mod Cuts
pub mod Refusal
pub mod Why
pub mod Unwritten
pub mod Due
pub mod Before

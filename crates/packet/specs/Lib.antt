-- The fields round a packet's values (Head), the packet as the Rust has it (Packet), what reading one whole finds and comes to (Reading) and shows (Shown),
-- the cut and the reading by entry (Entry), entries as numbers (Row), what a change inside values is (Change), what writing a packet puts out (Writing), and
-- what a packet is written as (Written), with examples computed by the checker (Examples, WriteExamples).
pub mod Head
pub mod Packet
pub mod Reading
pub mod Shown
pub mod Entry
pub mod Row
pub mod Change
pub mod Writing
pub mod Written
pub mod Examples
pub mod WriteExamples
pub mod Carried
pub mod Code

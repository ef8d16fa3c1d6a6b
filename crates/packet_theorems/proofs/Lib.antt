-- `Demand3` is the customer's third demand. `Theorems` and `CutTheorems` have what is proved of the calls one by one, `PacketTheorems` of packets as the Rust
-- has them, `CutExactly` of what is cut, `Refusals` which field refuses a packet and `Dues` which record, `Reasons` and `Beginnings` what that says of the
-- calls, `Unknown` of packets in which no length is known, `Known` of those in which all are, `WriteTheorems` what is proved of the writer and of the round trip, `EntryTrip` of the trip of an
-- entry, and `Room` of the room. The files below each are what it is proved by.
pub mod Demand3
pub mod Same
pub mod Frame
pub mod Heads
pub mod Said
pub mod Agree
pub mod Examples
pub mod Theorems
pub mod CutTheorems
pub mod SpanTheorems
pub mod Outcome
pub mod Taken
pub mod PacketTheorems
pub mod Items
pub mod Whole
pub mod Refusals
pub mod Ways
pub mod Labels
pub mod Parts
pub mod Reasons
pub mod Beginnings
pub mod Unknown
pub mod WriteTheorems
pub mod Puts
pub mod Shortest
pub mod WriteOutcome
pub mod Seen
pub mod WriteSound
pub mod WriteRefusal
pub mod WriteRefusing
pub mod WriteReasons
pub mod Unique
pub mod PacketBytes
pub mod Cutting
pub mod CutExactly
pub mod Room
pub mod EntryTrip
pub mod Dues
pub mod Known

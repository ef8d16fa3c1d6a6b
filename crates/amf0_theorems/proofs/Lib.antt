-- `Theorems` has what is proved of the reading, `Refusals` and `Dues` what is proved of readings that are refused, by a field and for room, `WriteTheorems` what is
-- proved of the writing and of the round trip, `Room` the round trip in every room, and `Spans` and `SpanTrip` what is proved of spans, whatever holds them. The files
-- below each are what it is proved by.
pub mod Theorems
pub mod Marked
pub mod Complete
pub mod Sound
pub mod Telling
pub mod Shifting
pub mod Refusals
pub mod Refused
pub mod Stopped
pub mod Refusing
pub mod Dues
pub mod Leading
pub mod Bytes
pub mod WriteTheorems
pub mod Says
pub mod Puts
pub mod Shortest
pub mod Spelling
pub mod Alike
pub mod WriteOutcome
pub mod Seen
pub mod WriteSound
pub mod WriteRefusal
pub mod WriteRefusing
pub mod WriteReasons
pub mod Room
pub mod More
pub mod Settled
pub mod Spans
pub mod SpanTrip
pub mod Call

-- `Theorems` has what is proved of the readings, `Reasons` and `Dues` why and where they are refused, `Beginning` what the beginnings of a file
-- come to, `WriteTheorems` what is proved of the writing and of the round trip, and `Room` the round trip in every room. The files below each are what it is
-- proved by.
pub mod Theorems
pub mod Complete
pub mod Sound
pub mod Files
pub mod Stopping
pub mod Reasons
pub mod Refusals
pub mod Beginning
pub mod WriteTheorems
pub mod Puts
pub mod WriteOutcome
pub mod Seen
pub mod WriteSound
pub mod WriteRefusal
pub mod WriteRefusing
pub mod WriteReasons
pub mod Room
pub mod Dues

-- What is proved of the index. Of making it: `Determined` (each byte of an index is one alone), `Answers` and `Reasons` (each answer, against the writers' and
-- against trees), `Readings` (what was read has an index), `Whole` (what an index is of) and `Each` (each key has one mark). Of looking up: `Paths` and `Files` (a path
-- is found exactly where the tree or the file has such a way down) and `Any` (in an index from anywhere). The files below are what it is proved by.
pub mod Determined
pub mod Answers
pub mod Reasons
pub mod Readings
pub mod Whole
pub mod Each
pub mod Paths
pub mod Files
pub mod Any
pub mod Refusals
pub mod FileRefusals
pub mod Room
pub mod Stand
pub mod Ways
pub mod Held
pub mod Marks
pub mod Latest
pub mod Lookup

-- What a call returns by value in Rattle, as the numbers that go out to C.
pub mod Numbers

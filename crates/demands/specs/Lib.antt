-- The forms in which the demands are said of calls, what inputs and images are, the starred examples, and what the readings came to before a refusal had a
-- place.
pub mod Forms
pub mod Inputs
pub mod Examples
pub mod Before

-- `Demands` has the customer's three demands, each sentence with its statement. `Determined` says of every public call that its contract determines the
-- outcome, over the contract itself (`Call`), and `Calls` and `CCalls` what a call is with its arguments, result and buffers. `Agree` has what demand 3 says of
-- calls, and `Starred` what a starred example does. The files below are what the demands are proved by.
pub mod Demands
pub mod Determined
pub mod Call
pub mod Calls
pub mod CCalls
pub mod Agree
pub mod Starred
pub mod Told
pub mod Counts
pub mod Laws
pub mod Demand1
pub mod Short
pub mod Tight
pub mod Uncut
pub mod CDemand1
pub mod Demand2
pub mod Demand3
pub mod Before

-- A group in plain numbers, its calls and its promises: nothing here cites the code of this crate.
pub mod Events
pub mod Pasts
pub mod Stores
pub mod Promises
pub mod Groups
pub mod Calls
pub mod GroupStore
pub mod WorkedCase
pub mod Reached

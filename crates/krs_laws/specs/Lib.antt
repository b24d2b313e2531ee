-- What laws say of histories of a store, in the words of krs_model: who may change what, who is told, what is left in
-- the end, what a store never holds more of, and what the marks of asks promise.
pub mod Belonging
pub mod Integrity
pub mod Noting
pub mod Emptied
pub mod Limits
pub mod Overwritten
pub mod Expired
pub mod Marks
pub mod Going

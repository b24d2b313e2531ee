-- What the tests of the store want.
pub mod Wanted

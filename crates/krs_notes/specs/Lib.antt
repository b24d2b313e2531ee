pub mod Guess
pub mod Laws

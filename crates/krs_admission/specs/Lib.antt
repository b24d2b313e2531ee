pub mod Rule
pub mod Law

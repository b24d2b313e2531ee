pub mod Ticks
pub mod Conversing

pub mod Names
pub mod KindRows

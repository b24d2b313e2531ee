pub mod Granting
pub mod Making
pub mod Linked
pub mod View
pub mod Holding
pub mod Specials
pub mod Serving

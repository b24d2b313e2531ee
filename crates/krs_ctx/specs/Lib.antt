pub mod Anchors
pub mod Members
pub mod Told
pub mod View

pub mod View
pub mod Watched
pub mod Offers
pub mod Reads
pub mod Changes
pub mod Laws

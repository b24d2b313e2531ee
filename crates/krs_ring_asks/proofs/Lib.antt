pub mod LinkAndUnlink
pub mod SearchAndRequest
pub mod SearchWithMade
pub mod MovedLinks
mod KeyDetached
mod Detaching
mod PayloadLinks

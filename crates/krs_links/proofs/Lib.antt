pub mod LinksLemmas
pub mod PlacesLemmas
pub mod KeyLinks
pub mod IndexLemmas
pub mod IndexedLemmas
pub mod FreeLemmas

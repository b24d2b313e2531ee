pub mod RemoteLemmas
pub mod EndingLemmas
pub mod HeadLemmas
pub mod WholeLemmas

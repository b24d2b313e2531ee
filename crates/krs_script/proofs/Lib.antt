pub mod RunningLemmas
pub mod Going
pub mod SayingLemmas

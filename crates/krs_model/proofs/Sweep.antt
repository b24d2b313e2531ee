-- What a sweep leaves.
pub mod HeldKeys
pub mod Laws
pub mod QueueAsks

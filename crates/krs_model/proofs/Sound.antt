-- That each step leaves a store sound, part by part.
pub mod Steps
pub mod Changes
pub mod KeyChanges
pub mod Links
pub mod NewContexts
pub mod Contexts
pub mod Contents
pub mod Attached
pub mod InUse
pub mod Queues
pub mod Watches

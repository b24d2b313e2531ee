-- What a key store is, and what each ask does to it. Read these, in this order: what is kept; what a caller may do with
-- a key; which keys are possessed; what an id stands for; a link more; what a search finds; what is made where an ask
-- wants a keyring; what goes at the end of an ask; what links may not do; each ask; one step; a history.
pub mod State
pub mod Access
pub mod Possession
pub mod Lookup
pub mod Linking
pub mod Search
pub mod Making
pub mod Sweep
pub mod Reach
pub mod Asks
pub mod Step
pub mod History
-- Then queues: what watches a key, what is told, which records wait, and what a reader gets.
pub mod Queues
pub mod Notes
-- What the definitions above are written with.
pub mod Lists
pub mod Table
pub mod Levels
pub mod Outcome
-- What laws say of the definitions: what holds between asks, and of every history. No definition of an ask cites them.
pub mod Sound
pub mod Orderly
pub mod Anchored
pub mod Usable
pub mod Ordering
pub mod Receiving
pub mod Revocation
pub mod Hiding
pub mod Secrecy
pub mod Confidentiality
pub mod Joined
pub mod Belonging
pub mod Laws

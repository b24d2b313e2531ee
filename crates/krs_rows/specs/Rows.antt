-- Rows of asks, by subject. Each begins with an empty store that gives the serial 3 next, with lane 0, moment 0 and
-- context 1; what is due is written down from the manual pages and docs/PROFILE.md, and no program printed it.
pub mod Keys
pub mod Keyrings
pub mod Contexts
pub mod Searches
pub mod Records
pub mod Numbers
-- And what Linux answered.
pub mod Traces

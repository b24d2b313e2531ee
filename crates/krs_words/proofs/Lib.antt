pub mod NumberLemmas
pub mod HexadecimalLemmas
pub mod DataLemmas
pub mod WordsLemmas
pub mod EachLemmas
pub mod LinesLemmas
pub mod SerialsLemmas
pub mod WritingLemmas

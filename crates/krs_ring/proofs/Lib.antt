pub mod SlotsLemmas

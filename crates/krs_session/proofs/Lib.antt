pub mod JoinLemmas
pub mod PieceLemmas
pub mod CallLemmas
pub mod AlikeLemmas

-- What a store answers, computed from the definitions of krs_model, and rows of asks with the replies that are due.
pub mod Answers
pub mod Words
pub mod Rows

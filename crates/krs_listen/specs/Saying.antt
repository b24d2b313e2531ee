-- What the daemon's outputs hold, and whether they took all that it said.
pub use Rattle.krs_words.specs.Saying.{Heard, heard, Says}

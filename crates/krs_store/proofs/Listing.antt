-- What a keyring is read as, for those that read it.
pub use Rattle.krs_tables.proofs.Links.{length-serial_bytes}

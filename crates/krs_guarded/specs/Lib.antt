-- What lanes with peers say of histories: each HELLO on them came through the guard.
pub mod Guarded

-- Laws of look-ups: names, rights, and the serial that is answered.
pub mod Laws
pub mod Serials
pub mod Rights

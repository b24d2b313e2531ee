pub mod Peers

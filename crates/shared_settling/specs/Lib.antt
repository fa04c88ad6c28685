pub mod SharedSettler
pub mod Endings

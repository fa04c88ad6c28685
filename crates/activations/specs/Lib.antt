pub mod LastUsed

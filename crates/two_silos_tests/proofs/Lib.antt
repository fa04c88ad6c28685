pub mod OpeningBalances

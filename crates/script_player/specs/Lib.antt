pub mod PlayState

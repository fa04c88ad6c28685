pub mod StackView

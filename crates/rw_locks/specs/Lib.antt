pub mod LockView

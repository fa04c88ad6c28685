pub mod Tables
pub mod Countdown
pub mod Worlds
pub mod SeenFiles
pub mod CrashDraws
pub mod FailedCalls

pub mod Model
pub mod Places
pub mod Layouts
pub mod Sessions
pub mod Groups
pub mod Parts

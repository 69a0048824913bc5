pub mod Model
pub mod Views
pub mod Rows
pub mod Delivery
pub mod Sessions
pub mod Cuts

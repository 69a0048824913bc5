pub mod Rows
pub mod CommonFloors
pub mod Greatest

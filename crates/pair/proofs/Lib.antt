pub mod Sides
pub mod Memory

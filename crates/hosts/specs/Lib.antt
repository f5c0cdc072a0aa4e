pub mod Follows
pub mod Makes
pub mod Stories

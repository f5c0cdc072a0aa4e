pub mod Letters
pub mod Puts
pub mod Sizes

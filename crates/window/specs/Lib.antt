pub mod Padding
pub mod Pages

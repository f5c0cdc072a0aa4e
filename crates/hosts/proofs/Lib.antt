pub mod Between
pub mod Hands
pub mod Logs
pub mod Plans
pub mod Posts

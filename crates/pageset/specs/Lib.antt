pub mod Count
pub mod Member

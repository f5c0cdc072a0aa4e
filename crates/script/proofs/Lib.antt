pub mod Numbers
pub mod Spellings

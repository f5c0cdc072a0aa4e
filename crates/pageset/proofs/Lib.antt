pub mod Counts
mod Bits

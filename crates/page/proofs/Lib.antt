pub mod Bytes
pub mod Sizes
pub mod Tells
pub mod Turns

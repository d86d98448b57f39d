pub mod Whole
pub mod Lawful

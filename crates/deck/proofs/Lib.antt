pub mod Lines
pub mod Contents
pub mod Bounding

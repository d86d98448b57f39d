pub mod Words
pub mod Fields
pub mod Looking
pub mod Telling
pub mod Answering

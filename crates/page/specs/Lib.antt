pub mod Text
pub mod Pages
pub mod Runs
pub mod Telling

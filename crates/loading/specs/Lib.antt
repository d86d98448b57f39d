pub mod Sites
pub mod Making

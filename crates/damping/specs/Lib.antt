pub mod Rule
pub mod Table
pub mod Eurocode
pub mod Reduction
pub mod Growth
pub mod Lines

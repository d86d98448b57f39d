pub mod Parts
pub mod Numbers
pub mod RowLines
pub mod CaseLines
pub mod Machine
pub mod Reading
pub mod Text
pub mod Hanging

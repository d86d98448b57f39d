pub mod Totals
pub mod Firsts
pub mod Covering
pub mod Answering
pub mod Entering

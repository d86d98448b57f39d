pub mod Leads
pub mod Pendulums
pub mod LeadsLemmas
pub mod PendulumsLemmas

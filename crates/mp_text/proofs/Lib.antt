pub mod Places
pub mod Items
pub mod LineLemmas
pub mod FieldLemmas
pub mod Written

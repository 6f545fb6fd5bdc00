pub mod Verdict
pub mod Meaning

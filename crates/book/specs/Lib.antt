pub mod Places
pub mod View
pub mod Growing
pub mod Searching

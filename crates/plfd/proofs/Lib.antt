pub mod Ahead
pub mod Spelling
pub mod Steps
pub mod Checks
pub mod Stacks
pub mod Exactness
pub mod Unique

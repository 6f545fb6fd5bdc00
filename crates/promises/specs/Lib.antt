pub mod Refusals
pub mod Words
pub mod Page
pub mod Declaring
pub mod Writing
pub mod Laying
pub mod Judging

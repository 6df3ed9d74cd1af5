pub mod Opening
pub mod Apart
pub mod Laying
pub mod Written

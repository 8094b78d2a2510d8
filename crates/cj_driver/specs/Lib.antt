pub mod Commands
pub mod TeamCommands
pub mod Made
pub mod Outside
pub mod Texts
pub mod Answers
pub mod Steps
pub mod Lines

pub mod Output
pub mod Reports

pub mod Lists
pub mod FitsLemmas
pub mod RunLemmas
pub mod Printing
pub mod SameLaws
pub mod Segments

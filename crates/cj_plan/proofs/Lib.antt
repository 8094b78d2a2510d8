pub mod Each
mod Edges

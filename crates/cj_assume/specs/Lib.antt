pub mod ImmediateAssume

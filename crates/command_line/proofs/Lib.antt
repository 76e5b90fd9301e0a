pub mod Matches
pub mod Subcommands
pub mod Values

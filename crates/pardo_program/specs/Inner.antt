-- Definitions that private contracts alone cite.
pub mod Nodes
pub mod Postfixes
pub mod Untested

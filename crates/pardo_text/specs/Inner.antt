-- Definitions that private contracts alone cite.
pub mod Tokens
pub mod Marks
pub mod Names
pub mod Values
pub mod Columns
pub mod Drafts
pub mod Exprs
pub mod Settings

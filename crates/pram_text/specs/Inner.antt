-- Definitions that private contracts alone cite.
pub mod Statement
pub mod Reading
pub mod Ahead

-- What private contracts cite.
pub mod Doing
pub mod Ends
pub mod Next
pub mod Plain
pub mod Plays
pub mod Until

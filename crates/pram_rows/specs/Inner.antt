-- For private contracts alone.
pub mod Printing
pub mod Spans
pub mod Losses

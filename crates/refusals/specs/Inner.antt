-- For private contracts alone.
pub mod Named

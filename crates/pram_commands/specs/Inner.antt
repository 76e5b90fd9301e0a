-- For private contracts alone.
pub mod Drafted
pub mod Puts
pub mod Hearing
pub mod Watching
pub mod Told
pub mod Unrun

pub mod Instructions
pub mod Job
pub mod Places
pub mod Laws

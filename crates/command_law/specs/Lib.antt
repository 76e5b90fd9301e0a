pub mod Laws
pub mod Programs

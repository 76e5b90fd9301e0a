pub mod Answering
pub mod Judging
pub mod Random
pub mod Refusing
pub mod Setting
pub mod Sweeping
pub mod Input

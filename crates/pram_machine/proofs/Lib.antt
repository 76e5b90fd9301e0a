pub mod Shapes
pub mod Computing

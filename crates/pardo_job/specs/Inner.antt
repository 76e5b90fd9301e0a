pub mod Emitting
pub mod Nodes
pub mod Pieces
pub mod Listings
pub mod Endings

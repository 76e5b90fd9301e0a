-- What a world keeps, for the contracts of its own functions.
pub mod Holding
pub mod Telling

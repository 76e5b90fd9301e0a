pub mod Sharing
pub mod Splitters
pub mod FlatLines
pub mod FlatLawful
pub mod Flats
pub mod FlatWhole

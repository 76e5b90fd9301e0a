pub mod Postfix
pub mod Nodes
pub mod Tests
pub mod Depths
pub mod LawTests
pub mod LawValues
pub mod LawFors

pub mod WordsOf
pub mod WordsNumbers
pub mod Splitting

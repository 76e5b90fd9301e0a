pub mod Judgement
pub mod Text
pub mod InstructionLines
pub mod Laws
pub mod Inner

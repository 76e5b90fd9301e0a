pub mod Printed
pub mod Transfer
pub mod Records

mod AsBox
mod Giving
mod Seated

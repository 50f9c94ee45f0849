pub mod Readings
pub mod Congruences
pub mod Words
pub mod Calls
pub mod RoundCalls
pub mod Balanced
pub mod LowEnds

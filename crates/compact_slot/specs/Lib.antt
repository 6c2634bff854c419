pub mod Seat
pub mod Slots

-- Laws of the room's tests.
pub mod Ends
pub mod Units
pub mod Cleared

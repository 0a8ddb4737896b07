pub mod Rooms
pub mod Written
pub mod Pieces
pub mod Searches

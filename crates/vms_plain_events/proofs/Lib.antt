pub mod WrittenWords
pub mod MovedWords
pub mod OnlineWords
pub mod Rooms

pub mod Rooms
pub mod LineKinds
pub mod Lefts

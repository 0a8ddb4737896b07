mod Bytes
mod Judged
mod Rooms

mod Rows
mod Thresholds
mod Marks
mod Encodings

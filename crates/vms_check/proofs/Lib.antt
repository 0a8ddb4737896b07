pub mod Remarks
pub mod WrittenAgain
pub mod CheckedLines

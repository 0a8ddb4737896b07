mod ReplySteps
pub mod PairedLists

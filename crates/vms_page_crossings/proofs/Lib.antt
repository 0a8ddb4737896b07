pub mod KernelAnswers
pub mod PageRooms

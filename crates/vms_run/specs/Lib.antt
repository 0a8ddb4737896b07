pub mod Threads
pub mod Rules
pub mod RunPhases
pub mod Runners
pub mod MadeTexts
pub mod Common

pub mod Saying
mod TakenTexts
mod TextAnswers
mod OneList
mod TextOutcomes
mod OneOutput
mod OneVerdict

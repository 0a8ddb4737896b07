pub mod ExactRules

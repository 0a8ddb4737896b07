pub mod CarriedParts
pub mod RoughSigns
pub mod MadeSteps
pub mod OwnAdds
pub mod OthersMoves
pub mod PassedParts
pub mod Limits
pub mod FarOff

mod AllZero
mod ShownConditions

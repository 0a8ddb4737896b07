mod GivenSegments
mod StayingFaults
mod TakenLines

mod Raised
mod Stated
mod RangeSteps

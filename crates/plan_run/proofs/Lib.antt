mod SearchLaws
mod PlannedTexts
mod Finding
mod WorkEnds
mod Planned
mod Supported
mod Covered

pub mod Table
pub mod Grammar
pub mod Tests
pub mod Reading
pub mod Spelling
pub mod Writing

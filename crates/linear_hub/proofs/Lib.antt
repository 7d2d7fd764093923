mod Callers
pub mod Answering
mod Ending
mod WorkedCalls
mod LedTo
mod WorkerLists

pub mod VerifyRuns

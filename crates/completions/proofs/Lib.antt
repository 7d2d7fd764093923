pub mod CompletionLaws

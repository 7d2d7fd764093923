pub mod MetLaws

pub mod PictureRuns

mod Lists
mod Numbered
mod Formed
mod Levels
mod Instances

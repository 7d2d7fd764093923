mod Lists
mod Values
mod Possible
mod Only

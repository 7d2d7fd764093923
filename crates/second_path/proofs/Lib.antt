mod Trees
mod Visits
mod Routes
mod Joins
mod Closing
mod Deciding
mod Blocking

mod RowLists
mod Moves
mod Puts
mod Looks
mod Shows

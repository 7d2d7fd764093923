mod Claims
mod NodeEnds

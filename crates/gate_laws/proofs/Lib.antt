mod EachText
mod EachNetwork
mod EachModel
mod EachPlan

mod EntryLaws
mod LimitLaws
mod RangeLaws

use Rattle.least_path.proofs.spread.Query.answer.Goals as goal

pub told-requires-clause-search : goal.told-requires-clause-search
told-requires-clause-search g c = rw c.deref.ensures.value c.in_ok-labels.ensures.search

pub told-requires-clause-nearest : goal.told-requires-clause-nearest
told-requires-clause-nearest g c = rw c.deref.ensures.value c.in_ok-labels.ensures.nearest

pub told-requires-clause-at_target : goal.told-requires-clause-at_target
told-requires-clause-at_target g c = c.in_ok-labels.ensures.at_target

pub told-requires-clause-none : goal.told-requires-clause-none
told-requires-clause-none g c = rw c.deref.ensures.value c.in_ok-labels.ensures.none

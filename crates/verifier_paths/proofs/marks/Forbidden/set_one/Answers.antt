use Rattle.verifier_paths.proofs.MarkLaws.{forbidden_by-set}
use Rattle.verifier_paths.proofs.marks.Forbidden.set_one.Goals as goal

pub returns-clause-value : goal.returns-clause-value
returns-clause-value c =
    rw (← c.self.view_is) (forbidden_by-set _ _ _ _ _ _ _ c.self.invariant (rw (← c.self.view_is) at c.requires.demand) (rw (← c.self.view_is) at c.requires.arc) (rw (← c.self.view_is) at c.place_of-place.ensures.value))

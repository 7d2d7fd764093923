use Rattle.cert_verifier.proofs.claims.check_plan_design.Goals as goal

pub returns-in-Some : goal.returns-in-Some
returns-in-Some c = rw c.in-Some.is c.check_stated.ensures

use Rattle.std.proofs.Common.{◌≡◌, subst, sym}
use Rattle.arc_restrict.specs.Rows.{forbids}
use Rattle.master_step.specs.declared.source.Source.{Source}
use Rattle.master_step.specs.Choosing.{is_allowed}
use Rattle.master_step.proofs.Looking.{permits-is}
use Rattle.master_step.proofs.source.Source.allows.Goals as goal

pub returns-in-Pool : goal.returns-in-Pool
returns-in-Pool c =
    subst (λ (s : Source). c.permits.result ≡ is_allowed s c.args.demand.0 c.args.path.now) (sym c.in-Pool.is)
    (permits-is (forbids c.in-Pool.restriction.now) c.args.demand.0 c.args.path.now c.permits.result c.permits.ensures.0 c.permits.ensures.1)

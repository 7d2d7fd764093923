use Rattle.std.proofs.Common.{subst, sym}
use Rattle.column_pool.specs.Columns.{AreColumns}
use Rattle.gate_searches.proofs.masters.columns.add_simple.Goals as goal

pub returns-in_ok-add : goal.returns-in_ok-add
returns-in_ok-add c = subst (AreColumns c.args.inst.now) (sym c.in_ok-add.ensures.added)
    (c.columns_stay.ensures.added c.args.inst.now c.args.pool.now c.args.demand.0 c.args.path.now c.requires.columns c.requires.demand
    (c.is_simple_path.ensures.0 c.if-is_simple_path.true))

use Rattle.block_deques.proofs.Drains.{whole_fewer, one_emptied}
use Rattle.block_deques.proofs.gathering.drain_all.Goals as goal

pub loop-owner-preserved : goal.loop-owner-preserved
loop-owner-preserved c =
    let at = c.loop-owner in record {
      whole = (whole_fewer at.owners.items c.pop.new.self.items c.in-Some.owner c.in-Some.ensures.items at.invariant.whole).1;
      sums = one_emptied c.args.owners.items at.owners.items c.pop.new.self.items c.in-Some.owner at.left.items c.drain.new.left.items c.in-Some.ensures.items c.in_ok-drain.ensures at.invariant.sums;
    }

use Rattle.std.proofs.Common.{sym, subst}
use Rattle.search_machine.specs.State.{State}
use Rattle.search_machine.specs.Publishing.{PublishStep}
use Rattle.search_machine.specs.declared.answers.Publish.TheVariants as publish
use Rattle.pool_core.specs.Foretold.{IsFollowing}
use Rattle.pool_core.proofs.pool.Pool.publish.Goals as goal

pub publish_following-requires : goal.publish_following-requires
publish_following-requires c =
    subst (λ (s : State). IsFollowing s c.args.node c.args.seen c.args.prices.now c.in-Ok.next) (sym c.following.ensures.unchanged) c.in-Ok.ensures.follows

pub returns-in-Ok : goal.returns-in-Ok
returns-in-Ok c = record {
  event = subst (λ (s : State). PublishStep s c.args.node c.args.seen c.args.prices.now (publish.Published c.in-Ok.next.slot c.in-Ok.next.version) c.publish_following.new.self) c.following.ensures.unchanged c.publish_following.ensures;
}

pub returns-in-Err : goal.returns-in-Err
returns-in-Err c = record {
  event = subst (λ (s : State). PublishStep c.args.self.now c.args.node c.args.seen c.args.prices.now c.in-Err.refusal s) (sym c.following.ensures.unchanged) c.in-Err.ensures.refused;
}

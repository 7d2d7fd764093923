use Rattle.std.proofs.Common.{subst}
use Rattle.plan_base.specs.declared.parts.Parts.{Parts}
use Rattle.link_steps.specs.Costs.{IsFaultOf}
use Rattle.instance_maker.specs.Trials.{sample_parts}
use Rattle.instance_maker.proofs.Levels.{only_memory}
use Rattle.instance_maker.proofs.trials.sample_problem.Goals as goal

-- no link takes too many steps, so the only refusal is want of memory
pub of_steps-requires : goal.of_steps-requires
of_steps-requires c =
    only_memory (sample_parts c.args.number c.args.nodes c.args.demands) c.in-Err.fault
    (λ e within. c.samples_are_instances.ensures.few_steps c.args.number c.args.nodes c.args.demands e c.requires.some c.requires.few c.requires.demands within)
    (subst (λ (p : Parts). IsFaultOf p c.in-Err.fault) c.in_ok-inst.ensures c.in-Err.ensures.fault)

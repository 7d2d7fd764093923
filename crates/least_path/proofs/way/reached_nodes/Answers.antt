use Rattle.std.proofs.Common.{Ok, ◌∙◌, rules}
use Rattle.std.proofs.lemmas.Iterator.{YieldsList-from_slice, YieldsList-from_map, items_from_collect}
use Rattle.least_path.specs.Labels.{is_labelled}
use Rattle.least_path.proofs.way.reached_nodes.Goals as goal

pub returns : goal.returns
returns c =
    c.from_vec.ensures
    ∙ items_from_collect {E = Unit {0}} (Ok c.in_ok-reached.reached) c.in_ok-reached.ensures.ran (YieldsList-from_map _ is_labelled (YieldsList-from_slice c.args.labels.now cc) (cc) (λ x r q k. search rules))

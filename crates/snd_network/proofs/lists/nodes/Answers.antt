use Rattle.std.proofs.lemmas.Result.{err_from_is_err_and}
use Rattle.snd_network.specs.Reading.{node_list}
use Rattle.snd_reader.proofs.Faults.{through}
use Rattle.snd_network.proofs.lists.nodes.Goals as goal

pub returns-in_err-list : goal.returns-in_err-list
returns-in_err-list c =
    let p = err_from_is_err_and c.from_residual.result c.from_residual.ensures.1 in
    record { gives = rw (p.1, p.2) (through _ (node_list c.args.cursor.now) _ c.in_err-list.ensures.gives) }

use Rattle.std.proofs.Common.{refl}
use Rattle.proof_tree.proofs.WorkedCutLaws.{undirected-crosses, directed-crosses, bidirected-crosses}
use Rattle.proof_tree.proofs.laws.worked_crossings.Goals as goal

pub returns : goal.returns
returns c = record { undirected = undirected-crosses; directed = directed-crosses; bidirected = bidirected-crosses; shared = refl; not_left = refl; not_left_either = refl }

use Rattle.proof_tree.proofs.RingLaws.{ring-opening, ring-cuts, ring-lawful, ring-bound}
use Rattle.proof_tree.proofs.laws.worked_ring.Goals as goal

pub returns : goal.returns
returns c = record { opening = ring-opening; cuts = ring-cuts; prices = ring-lawful; bound = ring-bound }

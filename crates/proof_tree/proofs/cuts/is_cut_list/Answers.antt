use Rattle.std.proofs.Common.{refl}
use Rattle.proof_tree.proofs.cuts.is_cut_list.Goals as goal

pub returns : goal.returns
returns c = (
  λ different. record { few = c.if-cuts-gt-MAX_CUTS.false; are_cuts = c.if-not-are_cuts.ensures.0 refl; different = c.are_different.ensures.0 different },
  λ is. c.are_different.ensures.1 is.different,
)

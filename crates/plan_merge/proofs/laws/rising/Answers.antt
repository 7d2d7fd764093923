use Rattle.plan_merge.proofs.Rising.{merged-above_first, merged-above_second, merged-bounds}
use Rattle.plan_merge.proofs.laws.rising.Goals as goal

pub returns-clause-first : goal.returns-clause-first
returns-clause-first c = λ p cuts one other least low low' above. merged-above_first p cuts least one other low low' above

pub returns-clause-second : goal.returns-clause-second
returns-clause-second c = λ p cuts one other least low low' above. merged-above_second p cuts least one other low low' above

pub returns-clause-bounds : goal.returns-clause-bounds
returns-clause-bounds c = merged-bounds

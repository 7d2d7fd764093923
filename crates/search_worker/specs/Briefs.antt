-- What a master step may be told.
use Rattle.std.specs.Prelude.{List}
use Rattle.plan_base.specs.declared.parts.Parts.{Parts}
use Rattle.proof_tree.specs.declared.cuts.Cut.{Cut}
use Rattle.column_pool.specs.declared.brief.Brief.{Brief}
use Rattle.column_pool.specs.Briefs.{IsBriefFor}
pub use Rattle.column_pool.specs.Columns.{columns_at}
pub use Rattle.master_step.specs.Columns.{HasColumns}

-- the brief fits the instance and the cuts, and each demand has a column
abbrev pub IsTellable : Parts → List Cut → Brief → Type 0
IsTellable p cuts brief = IsBriefFor p cuts brief.prices brief.ranges brief.columns × HasColumns p (columns_at brief.columns)

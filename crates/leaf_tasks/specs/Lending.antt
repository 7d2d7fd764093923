-- What a guide lends.
use Rattle.std.specs.Borrow.{Lends, MutBor, Fml}
use Rattle.incumbent.specs.declared.ration.DesignSearch.{DesignSearch}
use Rattle.incumbent.specs.contracts.ration.DesignSearch as designs
use Rattle.leaf_tasks.specs.Guides.{Guided}
use Rattle.leaf_tasks.specs.contracts.guide.Guide as guide

-- the guide with these searches for designs
abbrev pub with_designs : Guided → DesignSearch → Guided
with_designs g designs = record g { designs = designs }

-- r lends the searches for designs: what is last written through it the guide has in the end, and the rest stays
abbrev pub LendsDesigns : MutBor Guided → MutBor DesignSearch → Fml
LendsDesigns g r = Lends guide.the_row designs.the_row g r (with_designs g.now)

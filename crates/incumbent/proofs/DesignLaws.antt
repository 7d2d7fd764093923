-- What a design and a completion say of their paths.
use Rattle.std.proofs.Common.{ℕ, List, [], length, slice_index_or, sym, subst}
use Rattle.plan_base.specs.declared.ids.ArcId.{ArcId}
use Rattle.plan_base.specs.declared.parts.Parts.{Parts}
use Rattle.plan_base.specs.declared.path.Design.{Design}
use Rattle.plan_base.specs.Arcs.{demand_at}
use Rattle.plan_base.specs.Designs.{IsDesign, KeepsLimit, KeepsLimits, IsGoodDesign}
use Rattle.completions.specs.Completions.{with_paths, ArePaths, IsCompletion}

-- the paths of a design
pub paths_of_design : (p : Parts) (d : Design) → IsDesign p d → ArePaths p d.paths
paths_of_design p d is = record { count = is.path_count; simple = is.paths }

-- a completion of paths that keep their limits is a feasible design in shape
pub good_completion : (p : Parts) (paths : List (List ArcId)) (cost : ℕ) (d : Design) → IsCompletion p paths cost d → KeepsLimits p (with_paths paths) → IsGoodDesign p d
good_completion p paths cost d is keeps = record {
  design = is.carried.design;
  feasible = record {
    carried = is.carried.carried;
    limits = λ k within. subst (λ (all : List (List ArcId)). KeepsLimit (demand_at p k).hops (length (slice_index_or all k []))) (sym is.same_paths) (keeps k within);
  };
  in_shape = is.carried.in_shape;
}

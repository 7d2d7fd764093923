-- Which lines of ranges a walk over the records of a valid tree has yet to write.
use Rattle.std.proofs.Common.{◌≡◌, ℕ, ◌+◌, ◌<◌, ◌≤◌, List, [], ◌∷◌, ◌++◌, length, get_or, drop, map, reverse, Option, refl, sym, ap, subst, ◌∙◌, append_assoc, append-nil}
use Rattle.std.specs.List.{AllByRecursion}
use Rattle.std.proofs.lemmas.List.{drop_more, drop_all, reverse-append, map-append}
use Rattle.plan_base.specs.declared.parts.Parts.{Parts}
use Rattle.plan_base.specs.Places.{places}
use Rattle.link_steps.specs.declared.range.LoadRange.{LoadRange}
use Rattle.link_steps.specs.Ranges.{whole_ranges, AreRanges}
use Rattle.snd_network.specs.declared.file.NetworkFile.{NetworkFile}
use Rattle.proof_tree.specs.declared.tree.TreeNode.{TreeNode}
use Rattle.proof_tree.specs.declared.tree.TreeNode.TheVariants.{Split, Loads, Leaf}
use Rattle.proof_tree.specs.Regions.{Region, whole}
use Rattle.proof_tree.specs.declared.cuts.Cut.{Cut}
use Rattle.proof_tree.specs.Trees.{children_at}
use Rattle.proof_tree.specs.RatedTrees.{IsRatedRecord, AreRatedTrees, IsRatedTree}
use Rattle.proof_tree.proofs.RangeLaws.{split-inside, AreRanges-up_to, AreRanges-above}
use Rattle.plan_table.specs.Tables.{leaf_ranges, tree_ranges}
use Rattle.plan_table.specs.Pending.{IsDivisible, children_last}

-- the ranges of regions
abbrev ranges_of : List Region → List (List LoadRange)
ranges_of gs = map (λ g. g.ranges) gs

-- each region has ranges of the instance
abbrev HaveRanges : Parts → List Region → Type 0
HaveRanges p gs = AllByRecursion (λ g. AreRanges p g.ranges) gs

-- the records are valid trees at regions, whose ranges are pending, the next ones last; with the lines of these trees this text is the whole
pub record IsLeft (net : NetworkFile) (p : Parts) (cuts : List Cut) (cost : Option ℕ) (i : ℕ) (pending : List (List LoadRange)) (nodes : List TreeNode) (text all : List ℕ) : Type 0 where
  pub regions : List Region
  pub valid : AreRatedTrees p cuts cost regions nodes
  pub have_ranges : HaveRanges p regions
  pub are_pending : ranges_of regions ≡ reverse pending
  pub lines : text ++ tree_ranges net p i regions nodes ≡ all

-- the next ranges are those of a region, at which the record is valid
record IsNext (net : NetworkFile) (p : Parts) (cuts : List Cut) (cost : Option ℕ) (i : ℕ) (pending : List (List LoadRange)) (ranges : List LoadRange) (node : TreeNode) (nodes : List TreeNode) (text all : List ℕ) : Type 0 where
  region : Region
  others : List Region
  valid : IsRatedRecord p cuts cost region node
  later : AreRatedTrees p cuts cost (children_at region node ++ others) nodes
  here : AreRanges p region.ranges
  there : HaveRanges p others
  same : region.ranges ≡ ranges
  pending_is : ranges_of others ≡ reverse pending
  lines : text ++ (leaf_ranges net p i region.ranges node ++ tree_ranges net p (i + 1) (children_at region node ++ others) nodes) ≡ all

next : (net : NetworkFile) (p : Parts) (cuts : List Cut) (cost : Option ℕ) (i : ℕ) (pending : List (List LoadRange)) (ranges : List LoadRange) (node : TreeNode) (nodes : List TreeNode) (text all : List ℕ)
    → IsLeft net p cuts cost i (pending ++ ranges ∷ []) (node ∷ nodes) text all → IsNext net p cuts cost i pending ranges node nodes text all
unfolding tree_ranges
next net p cuts cost i pending ranges node nodes text all h = by h.regions h.valid h.have_ranges (h.are_pending ∙ reverse-append pending (ranges ∷ [])) h.lines
  where
    by : (gs : List Region) → AreRatedTrees p cuts cost gs (node ∷ nodes) → HaveRanges p gs → ranges_of gs ≡ ranges ∷ reverse pending → text ++ tree_ranges net p i gs (node ∷ nodes) ≡ all → IsNext net p cuts cost i pending ranges node nodes text all
    by [] valid have are lines = absurd cc
    by (g ∷ gs) valid have are lines = record { region = g; others = gs; valid = valid.0; later = valid.1; here = have.0; there = have.1; same = cc; pending_is = cc; lines = lines }

divisible : (p : Parts) (cuts : List Cut) (cost : Option ℕ) (g : Region) (node : TreeNode) → IsRatedRecord p cuts cost g node → IsDivisible g.ranges node
divisible p cuts cost g (Split demand at left right) valid = tt
divisible p cuts cost g (Loads place load) valid = (split-inside p g.ranges place load valid, valid.some_right)
divisible p cuts cost g (Leaf evidence) valid = tt

-- what the next record needs: as many ranges as there are places, and that it can split its own
pub record IsReady (p : Parts) (ranges : List LoadRange) (node : TreeNode) : Type 0 where
  pub count : length ranges ≡ places p
  pub is_divisible : IsDivisible ranges node

-- the next record of a valid tree has a range for each place, and loads above where it splits one
pub ready : (net : NetworkFile) (p : Parts) (cuts : List Cut) (cost : Option ℕ) (i : ℕ) (pending : List (List LoadRange)) (ranges : List LoadRange) (node : TreeNode) (nodes : List TreeNode) (text all : List ℕ)
    → IsLeft net p cuts cost i (pending ++ ranges ∷ []) (node ∷ nodes) text all → IsReady p ranges node
ready net p cuts cost i pending ranges node nodes text all h =
    let n = next net p cuts cost i pending ranges node nodes text all h in
    record {
      count = subst (λ (r : List LoadRange). length r ≡ places p) n.same n.here.count;
      is_divisible = subst (λ (r : List LoadRange). IsDivisible r node) n.same (divisible p cuts cost n.region node n.valid);
    }

-- ---- one record on

-- the record of this place is the first of those that are left
pub at_record : (net : NetworkFile) (p : Parts) (cuts : List Cut) (cost : Option ℕ) (i : ℕ) (held pending : List (List LoadRange)) (ranges : List LoadRange) (node : TreeNode) (nodes : List TreeNode) (text all : List ℕ)
    → IsLeft net p cuts cost i held (drop i nodes) text all → held ≡ pending ++ ranges ∷ [] → i < length nodes → node ≡ get_or nodes i node → IsLeft net p cuts cost i (pending ++ ranges ∷ []) (node ∷ drop (i + 1) nodes) text all
at_record net p cuts cost i held pending ranges node nodes text all h is_held within is_node =
    let first : drop i nodes ≡ node ∷ drop (i + 1) nodes = drop_more nodes i node within ∙ ap (λ (n : TreeNode). n ∷ drop (i + 1) nodes) (sym is_node) in
    subst (λ (ns : List TreeNode). IsLeft net p cuts cost i (pending ++ ranges ∷ []) ns text all) first
    (subst (λ (rs : List (List LoadRange)). IsLeft net p cuts cost i rs (drop i nodes) text all) is_held h)

children-ranges : (g : Region) (node : TreeNode) → ranges_of (children_at g node) ≡ reverse (children_last g.ranges node)
children-ranges g (Split demand at left right) = refl
children-ranges g (Loads place load) = refl
children-ranges g (Leaf evidence) = refl

have-children : (p : Parts) (cuts : List Cut) (cost : Option ℕ) (g : Region) (node : TreeNode) → IsRatedRecord p cuts cost g node → AreRanges p g.ranges → HaveRanges p (children_at g node)
have-children p cuts cost g (Split demand at left right) valid are = (are, (are, tt))
have-children p cuts cost g (Loads place load) valid are = (AreRanges-up_to p g place load valid are, (AreRanges-above p g place load valid are, tt))
have-children p cuts cost g (Leaf evidence) valid are = tt

have-both : (p : Parts) (gs hs : List Region) → HaveRanges p gs → HaveRanges p hs → HaveRanges p (gs ++ hs)
have-both p [] hs one other = other
have-both p (g ∷ gs) hs one other = (one.0, have-both p gs hs one.1 other)

-- once a record's lines are written and its children's ranges are pending, the records behind it are left
pub one_on : (net : NetworkFile) (p : Parts) (cuts : List Cut) (cost : Option ℕ) (i : ℕ) (pending after : List (List LoadRange)) (ranges : List LoadRange) (node : TreeNode) (nodes : List TreeNode) (text new all : List ℕ)
    → IsLeft net p cuts cost i (pending ++ ranges ∷ []) (node ∷ nodes) text all → new ≡ text ++ leaf_ranges net p i ranges node → after ≡ pending ++ children_last ranges node
    → IsLeft net p cuts cost (i + 1) after nodes new all
one_on net p cuts cost i pending after ranges node nodes text new all h is_new is_after =
    let n = next net p cuts cost i pending ranges node nodes text all h in
    let regions : List Region = children_at n.region node ++ n.others in
    record {
      regions = regions;
      valid = n.later;
      have_ranges = have-both p (children_at n.region node) n.others (have-children p cuts cost n.region node n.valid n.here) n.there;
      are_pending = map-append (λ (g : Region). g.ranges) (children_at n.region node) n.others
          ∙ ap (λ (rs : List (List LoadRange)). rs ++ ranges_of n.others) (children-ranges n.region node ∙ ap (λ (r : List LoadRange). reverse (children_last r node)) n.same)
          ∙ ap (λ (rs : List (List LoadRange)). reverse (children_last ranges node) ++ rs) n.pending_is
          ∙ sym (reverse-append pending (children_last ranges node)) ∙ ap (λ (rs : List (List LoadRange)). reverse rs) (sym is_after);
      lines = ap (λ bytes. bytes ++ tree_ranges net p (i + 1) regions nodes) (is_new ∙ ap (λ (r : List LoadRange). text ++ leaf_ranges net p i r node) (sym n.same))
          ∙ append_assoc text (leaf_ranges net p i n.region.ranges node) (tree_ranges net p (i + 1) regions nodes) ∙ n.lines;
    }

-- ---- the beginning and the end

whole-ranges : (p : Parts) → AreRanges p (whole_ranges p) → HaveRanges p (whole p ∷ [])
whole-ranges p are = (are, tt)

-- before the first record, the whole tree is left, and the whole ranges of the instance are pending
pub at_root : (net : NetworkFile) (p : Parts) (cuts : List Cut) (cost : Option ℕ) (nodes : List TreeNode) (pending : List (List LoadRange)) (ranges : List LoadRange) (text : List ℕ)
    → IsRatedTree p cuts cost nodes → AreRanges p ranges → ranges ≡ whole_ranges p → pending ≡ ranges ∷ [] → IsLeft net p cuts cost 0 pending nodes text (text ++ tree_ranges net p 0 (whole p ∷ []) nodes)
at_root net p cuts cost nodes pending ranges text valid are is is_pending = record {
  regions = whole p ∷ [];
  valid = valid;
  have_ranges = whole-ranges p (subst (λ (r : List LoadRange). AreRanges p r) is are);
  are_pending = ap (λ (r : List LoadRange). r ∷ []) (sym is) ∙ ap (λ (rs : List (List LoadRange)). reverse rs) (sym is_pending);
  lines = refl;
}

-- where no ranges are pending, or no records are left, all lines are written
pub none_pending : (net : NetworkFile) (p : Parts) (cuts : List Cut) (cost : Option ℕ) (i : ℕ) (pending : List (List LoadRange)) (nodes : List TreeNode) (text all : List ℕ) → IsLeft net p cuts cost i pending nodes text all → pending ≡ [] → text ≡ all
unfolding tree_ranges
none_pending net p cuts cost i pending nodes text all h none = by h.regions (h.are_pending ∙ ap (λ (rs : List (List LoadRange)). reverse rs) none) h.lines
  where
    by : (gs : List Region) → ranges_of gs ≡ [] → text ++ tree_ranges net p i gs nodes ≡ all → text ≡ all
    by [] are lines = sym (append-nil text) ∙ lines
    by (g ∷ gs) are lines = absurd cc

-- where no records are left, all lines are written
pub no_records : (net : NetworkFile) (p : Parts) (cuts : List Cut) (cost : Option ℕ) (i : ℕ) (pending : List (List LoadRange)) (nodes : List TreeNode) (text all : List ℕ) → IsLeft net p cuts cost i pending (drop i nodes) text all → length nodes ≤ i → text ≡ all
unfolding tree_ranges
no_records net p cuts cost i pending nodes text all h ended = by h.regions (ap (λ (ns : List TreeNode). text ++ tree_ranges net p i h.regions ns) (sym (drop_all i nodes ended)) ∙ h.lines)
  where
    by : (gs : List Region) → text ++ tree_ranges net p i gs [] ≡ all → text ≡ all
    by [] lines = sym (append-nil text) ∙ lines
    by (g ∷ gs) lines = sym (append-nil text) ∙ lines

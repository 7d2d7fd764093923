-- The tables of a plan by the names of the network: lines of fields parted by commas, of which the first tells the table. Loads and costs are decimals in units; shares and gaps are in per cent.
use Rattle.std.specs.Prelude.{ℕ, ◌≡◌, ◌+◌, ◌-◌, ◌*◌, ◌/◌, ◌%◌, ◌==◌, nat_eq, nat_lt, Bool, ◌&&◌, ◌||◌, false, List, [], ◌∷◌, ◌++◌, length, codes, decimal, slice_index, slice_index_or, flat_map, if◌then◌else◌, Option, Some, None, ℤ, pos, negsuc}
use Rattle.std.specs.Int.{div_ceil}
use Rattle.std.specs.List.{range_with_len}
use Rattle.std.specs.Option.{option_map}
use Rattle.plan_base.specs.declared.ids.NodeId.{NodeId}
use Rattle.plan_base.specs.declared.parts.Parts.{Parts}
use Rattle.plan_base.specs.declared.path.Design.{Design}
use Rattle.plan_base.specs.Arcs.{link_at, demand_at}
use Rattle.plan_base.specs.Places.{is_two_way, places, link_of_place, there_of, back_of}
use Rattle.plan_base.specs.Designs.{path_at, counts_at, load_at, need, capacity_with, link_cost}
use Rattle.scaled_numbers.specs.Canonical.{grains_text}
use Rattle.link_steps.specs.declared.range.LoadRange.{LoadRange}
use Rattle.link_steps.specs.Ranges.{range_at, whole_range}
use Rattle.link_steps.specs.Unit.{IsUnit}
use Rattle.snd_network.specs.declared.file.NetworkFile.{NetworkFile}
use Rattle.proof_tree.specs.declared.tree.Evidence.TheVariants.{Routed, Overfull, Cut, Far, Crowd}
use Rattle.proof_tree.specs.declared.tree.TreeNode.{TreeNode}
use Rattle.proof_tree.specs.declared.tree.TreeNode.TheVariants.{Split, Loads, Leaf}
use Rattle.proof_tree.specs.declared.plan.PlanStatus.{PlanStatus}
use Rattle.proof_tree.specs.declared.plan.PlanStatus.TheVariants.{Optimal, Infeasible, Undecided}
use Rattle.proof_tree.specs.declared.plan.Plan.{Plan}
use Rattle.proof_tree.specs.Regions.{Region, whole}
use Rattle.proof_tree.specs.Trees.{children_at}
use Rattle.plan_report.specs.Lines.{numbers}
use Rattle.plan_report.specs.Verdicts.{cost_text, signed_text, status_word}
use Rattle.plan_report.specs.Reports.{load_text, node_name, link_name, demand_name, way_text}
use Rattle.plan_table.specs.Fields.{field, parted}

-- ---- shares

-- the share of a part in a whole, in tenths of a per cent, rounded down
abbrev pub share_of : ℕ → ℕ → ℕ
share_of part whole = part * 1000 / whole

-- tenths of a per cent, in per cent
abbrev pub percent_text : ℕ → List ℕ
percent_text tenths = grains_text tenths 1

-- how much of a capacity is used; nothing where there is no capacity
unfoldable pub used_text : ℕ → ℕ → List ℕ
used_text used capacity = if capacity == 0 then [] else percent_text (share_of used capacity)

-- what a bound leaves open of a cost, in parts of the cost, rounded up; nothing where the cost is 0 or the bound is negative
unfoldable pub gap_text : ℕ → ℤ → List ℕ
gap_text cost (pos bound) = if cost == 0 then [] else percent_text (1000 - share_of bound cost)
gap_text cost (negsuc n) = []

-- ---- the plan

-- a bound rounded up to a multiple of the unit of costs; a negative one as it is
abbrev pub rounded_up : ℕ → ℤ → ℤ
rounded_up unit (pos n) = pos (div_ceil n unit * unit)
rounded_up unit (negsuc n) = negsuc n

-- what no feasible design costs less than: the cost of an optimal plan, the raised bound of an undecided one
abbrev pub claimed_bound : ℕ → PlanStatus → Option (ℕ × Design) → Option ℤ → Option ℤ
claimed_bound unit Optimal None bound = None
claimed_bound unit Optimal (Some design) bound = Some (pos design.0)
claimed_bound unit Infeasible design bound = None
claimed_bound unit Undecided design bound = option_map (rounded_up unit) bound

-- the cost of a design, where there is one
abbrev pub cost_field : Option (ℕ × Design) → List ℕ
cost_field None = []
cost_field (Some design) = cost_text design.0

-- a bound, where there is one
abbrev pub bound_field : Option ℤ → List ℕ
bound_field None = []
bound_field (Some bound) = signed_text bound

-- the gap between a bound and the cost of a design, where there are both
abbrev pub gap_field : Option (ℕ × Design) → Option ℤ → List ℕ
gap_field (Some design) (Some bound) = gap_text design.0 bound
gap_field design bound = []

-- a bound, and the gap between it and the cost of a design
unfoldable pub bound_fields : Option (ℕ × Design) → Option ℤ → List ℕ
bound_fields design bound = 44 ∷ bound_field bound ++ 44 ∷ gap_field design bound

-- the names of the fields of the plan
unfoldable pub plan_names : List ℕ
plan_names = codes "kind,status,cost,bound,gap_percent,examined\n"

-- the line of the plan
unfoldable pub plan_row : ℕ → Plan → List ℕ
plan_row unit plan =
    codes "plan," ++ status_word plan.status ++ 44 ∷ cost_field plan.design
    ++ bound_fields plan.design (claimed_bound unit plan.status plan.design plan.bound) ++ 44 ∷ decimal plan.examined ++ codes "\n"

-- the table of the plan
abbrev pub plan_table : ℕ → Plan → List ℕ
plan_table unit plan = plan_names ++ plan_row unit plan

-- ---- links

-- the names of the source and the target, each behind a comma
abbrev pub ends_fields : NetworkFile → NodeId → NodeId → List ℕ
ends_fields net source target = 44 ∷ field (node_name net source.0) ++ 44 ∷ field (node_name net target.0)

-- the load of a link's other place, where it has one
unfoldable pub back_field : Parts → ℕ → List ℕ
back_field p load = if is_two_way p.orient then load_text load else []

-- the name of a link and those of its ends
unfoldable pub link_head : NetworkFile → Parts → ℕ → List ℕ
link_head net p e = codes "link" ++ 44 ∷ field (link_name net e) ++ ends_fields net (link_at p e).source (link_at p e).target

-- what is installed on a link: before, and of each module, and the capacity of all of it
unfoldable pub capacity_fields : Parts → Design → ℕ → List ℕ
capacity_fields p d e =
    44 ∷ load_text (link_at p e).pre ++ 44 ∷ parted (numbers (counts_at d e)) ++ 44 ∷ load_text (capacity_with (link_at p e) (counts_at d e))

-- the loads of a link's places, and how much of its capacity the larger one uses
unfoldable pub traffic_fields : Parts → Design → ℕ → List ℕ
traffic_fields p d e =
    44 ∷ load_text (there_of p (load_at p d) e) ++ 44 ∷ back_field p (back_of p (load_at p d) e)
    ++ 44 ∷ used_text (need p d e) (capacity_with (link_at p e) (counts_at d e))

-- the line of a link
abbrev pub link_row : NetworkFile → Parts → Design → ℕ → List ℕ
link_row net p d e = link_head net p e ++ capacity_fields p d e ++ traffic_fields p d e ++ 44 ∷ cost_text (link_cost p d e) ++ codes "\n"

-- the lines of so many links
abbrev pub link_rows : NetworkFile → Parts → Design → ℕ → List ℕ
link_rows net p d count = flat_map (link_row net p d) (range_with_len 0 count)

-- ---- demands

-- the name of a demand and those of its ends
unfoldable pub demand_head : NetworkFile → Parts → ℕ → List ℕ
demand_head net p k = codes "demand" ++ 44 ∷ field (demand_name net k) ++ ends_fields net (demand_at p k).source (demand_at p k).target

-- the load of a demand, and how many arcs its path has
unfoldable pub size_fields : Parts → Design → ℕ → List ℕ
size_fields p d k = 44 ∷ load_text (demand_at p k).load ++ 44 ∷ decimal (length (path_at d k))

-- the names of the links of a demand's path
unfoldable pub path_field : NetworkFile → Design → ℕ → List ℕ
path_field net d k = 44 ∷ field (parted (way_text net (path_at d k)))

-- the line of a demand
abbrev pub demand_row : NetworkFile → Parts → Design → ℕ → List ℕ
demand_row net p d k = demand_head net p k ++ size_fields p d k ++ path_field net d k ++ codes "\n"

-- the lines of so many demands
abbrev pub demand_rows : NetworkFile → Parts → Design → ℕ → List ℕ
demand_rows net p d count = flat_map (demand_row net p d) (range_with_len 0 count)

-- the names of the fields of links
unfoldable pub link_names : List ℕ
link_names = codes "kind,name,source,target,installed,modules,capacity,load,load_back,used_percent,cost\n"

-- the names of the fields of demands
unfoldable pub demand_names : List ℕ
demand_names = codes "kind,name,source,target,load,arcs,path\n"

-- the tables of a design: links and demands
abbrev pub design_tables : NetworkFile → Parts → Option (ℕ × Design) → List ℕ
design_tables net p None = []
design_tables net p (Some design) =
    link_names ++ link_rows net p design.1 (length p.links) ++ demand_names ++ demand_rows net p design.1 (length p.demands)

-- ---- evidence

-- a name behind a blank, where it is one of those that are told
abbrev pub told_word : Bool → List ℕ → List ℕ
told_word is_told name = if is_told then 32 ∷ name else []

-- the name of the node of this number behind a blank, where it is reached
abbrev pub reached_word : NetworkFile → List Bool → ℕ → List ℕ
reached_word net reached n = told_word (slice_index_or reached n false) (node_name net n)

-- the names of the nodes that are reached, each behind a blank
abbrev pub reached_words : NetworkFile → List Bool → ℕ → List ℕ
reached_words net reached count = flat_map (reached_word net reached) (range_with_len 0 count)

-- one of a link's places has a price
abbrev pub has_price : Parts → List ℕ → ℕ → Bool
has_price p prices e = nat_lt 0 (there_of p (slice_index prices) e) || nat_lt 0 (back_of p (slice_index prices) e)

-- the name of the link of this number behind a blank, where it has a price
abbrev pub priced_word : NetworkFile → Parts → List ℕ → ℕ → List ℕ
priced_word net p prices e = told_word (has_price p prices e) (link_name net e)

-- the names of the links that have a price, each behind a blank
abbrev pub priced_words : NetworkFile → Parts → List ℕ → ℕ → List ℕ
priced_words net p prices count = flat_map (priced_word net p prices) (range_with_len 0 count)

-- the line of a leaf's evidence: the record's place in the tree, and what the evidence names
abbrev pub evidence_line : ℕ → List ℕ → List ℕ → List ℕ → List ℕ → List ℕ
evidence_line record_ kind demand nodes links =
    codes "evidence," ++ decimal record_ ++ 44 ∷ kind ++ 44 ∷ field demand ++ 44 ∷ field nodes ++ 44 ∷ field links ++ codes "\n"

-- the line of a record: that of a leaf that is closed without a cost
abbrev pub evidence_row : NetworkFile → Parts → ℕ → TreeNode → List ℕ
evidence_row net p i (Leaf (Overfull link)) = evidence_line i (codes "OVERFULL") [] [] (link_name net link.0)
evidence_row net p i (Leaf (Cut demand reached)) = evidence_line i (codes "CUT") (demand_name net demand.0) (parted (reached_words net reached p.nodes)) []
evidence_row net p i (Leaf (Far demand)) = evidence_line i (codes "FAR") (demand_name net demand.0) [] []
evidence_row net p i (Leaf (Crowd prices)) = evidence_line i (codes "CROWD") [] [] (parted (priced_words net p prices (length p.links)))
evidence_row net p i node = []

-- the record that is read past the end of a list
abbrev pub no_record : TreeNode
no_record = Leaf Routed

-- the line of the record at this place
unfoldable pub record_row : NetworkFile → Parts → List TreeNode → ℕ → List ℕ
record_row net p nodes i = evidence_row net p i (slice_index_or nodes i no_record)

-- the lines of so many records
abbrev pub record_rows : NetworkFile → Parts → List TreeNode → ℕ → List ℕ
record_rows net p nodes count = flat_map (record_row net p nodes) (range_with_len 0 count)

-- the names of the fields of evidence
unfoldable pub evidence_names : List ℕ
evidence_names = codes "kind,record,evidence,demand,nodes,links\n"

-- the table of the evidence of a plan that says that there is no design
abbrev pub evidence_table : NetworkFile → Parts → PlanStatus → List TreeNode → List ℕ
evidence_table net p Infeasible nodes = evidence_names ++ record_rows net p nodes (length nodes)
evidence_table net p status nodes = []

-- ---- ranges

-- the range of a place has all its loads
abbrev pub is_whole : Parts → LoadRange → ℕ → Bool
is_whole p range q = nat_eq range.least 0 && nat_eq range.most (whole_range p q).most

-- the place is that of an arc from a link's target to its source
abbrev pub is_back_place : Parts → ℕ → Bool
is_back_place p q = is_two_way p.orient && nat_eq (q % 2) 1

-- the names of the ends of a place's link, each behind a comma, in the order in which the place leads
abbrev pub place_ends : NetworkFile → Parts → ℕ → List ℕ
place_ends net p q =
    if is_back_place p q then ends_fields net (link_at p (link_of_place p q)).target (link_at p (link_of_place p q)).source
    else ends_fields net (link_at p (link_of_place p q)).source (link_at p (link_of_place p q)).target

-- the record's place in the tree, and the names of a place's link and of its ends
unfoldable pub range_head : NetworkFile → Parts → ℕ → ℕ → List ℕ
range_head net p record_ q = codes "range," ++ decimal record_ ++ 44 ∷ field (link_name net (link_of_place p q)) ++ place_ends net p q

-- the least and the most load of a range
unfoldable pub range_fields : LoadRange → List ℕ
range_fields range = 44 ∷ load_text range.least ++ 44 ∷ load_text range.most

-- the line of the range of a place, where it has not all loads
abbrev pub range_row : NetworkFile → Parts → ℕ → List LoadRange → ℕ → List ℕ
range_row net p record_ ranges q = if is_whole p (range_at ranges q) q then [] else range_head net p record_ q ++ range_fields (range_at ranges q) ++ codes "\n"

-- the lines of the ranges of so many places
abbrev pub range_rows : NetworkFile → Parts → ℕ → List LoadRange → ℕ → List ℕ
range_rows net p record_ ranges count = flat_map (range_row net p record_ ranges) (range_with_len 0 count)

-- the lines of a record with these ranges: those of a leaf
abbrev pub leaf_ranges : NetworkFile → Parts → ℕ → List LoadRange → TreeNode → List ℕ
leaf_ranges net p i ranges (Split demand at left right) = []
leaf_ranges net p i ranges (Loads place load) = []
leaf_ranges net p i ranges (Leaf evidence) = range_rows net p i ranges (places p)

-- the lines of the leaves of trees that stand at these regions, where the first record has this place
unfoldable pub tree_ranges : NetworkFile → Parts → ℕ → List Region → List TreeNode → List ℕ
tree_ranges net p i [] nodes = []
tree_ranges net p i (g ∷ gs) [] = []
tree_ranges net p i (g ∷ gs) (node ∷ nodes) = leaf_ranges net p i g.ranges node ++ tree_ranges net p (i + 1) (children_at g node ++ gs) nodes

-- the names of the fields of ranges
unfoldable pub range_names : List ℕ
range_names = codes "kind,record,link,source,target,least,most\n"

-- lines behind the names of their fields, where there are lines
abbrev pub titled : List ℕ → List ℕ → List ℕ
titled names [] = []
titled names (byte ∷ bytes) = names ++ byte ∷ bytes

-- the table of the ranges of the leaves of a plan that says that there is no design
abbrev pub range_table : NetworkFile → Parts → PlanStatus → List TreeNode → List ℕ
range_table net p Optimal nodes = []
range_table net p Infeasible nodes = titled range_names (tree_ranges net p 0 (whole p ∷ []) nodes)
range_table net p Undecided nodes = []

-- ---- all tables

-- the text of a plan's tables at this unit of costs: what it claims, its design, and where there is none its evidence with the ranges of leaves
abbrev pub table_text : NetworkFile → Parts → ℕ → Plan → List ℕ
table_text net p unit plan =
    plan_table unit plan ++ design_tables net p plan.design ++ evidence_table net p plan.status plan.tree
    ++ range_table net p plan.status plan.tree

-- this is the text of a plan's tables, at the unit of costs of its instance
pub record IsTableText (net : NetworkFile) (p : Parts) (plan : Plan) (text : List ℕ) : Type 0 where
  pub unit : ℕ
  pub is_unit : IsUnit p unit
  pub text_is : text ≡ table_text net p unit plan

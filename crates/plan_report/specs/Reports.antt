-- The text of a report on a plan, by the names of the network, and the line of a trial. Each line ends with a line feed; its words are parted by one blank, which is 32.
use Rattle.std.specs.Prelude.{ℕ, ◌≡◌, List, [], ◌∷◌, ◌++◌, length, codes, slice_index_or, flat_map, if◌then◌else◌, nat_lt, Option, Some, None, ℤ}
use Rattle.std.specs.List.{range_with_len}
use Rattle.plan_base.specs.declared.ids.ArcId.{ArcId}
use Rattle.plan_base.specs.declared.parts.Parts.{Parts}
use Rattle.plan_base.specs.declared.path.Design.{Design}
use Rattle.plan_base.specs.Arcs.{link_at, link_of}
use Rattle.plan_base.specs.Places.{is_two_way, there_of, back_of}
use Rattle.plan_base.specs.Designs.{path_at, counts_at, load_at, capacity_with, link_cost}
use Rattle.snd_network.specs.declared.file.NetworkFile.{NetworkFile}
use Rattle.snd_network.specs.WellFormed.{node_names, link_names, demand_names}
use Rattle.snd_model.specs.declared.file.ModelFile.{ModelFile}
use Rattle.model_check.specs.Reading.{ReadsAs}
use Rattle.scaled_numbers.specs.Canonical.{grains_text}
use Rattle.proof_tree.specs.declared.plan.PlanStatus.{PlanStatus}
use Rattle.proof_tree.specs.declared.plan.PlanStatus.TheVariants.{Optimal, Infeasible, Undecided}
use Rattle.proof_tree.specs.declared.plan.Plan.{Plan}
use Rattle.plan_report.specs.Lines.{numbers, sizes_text}
use Rattle.plan_report.specs.Verdicts.{cost_text, bound_text, status_word}
use Rattle.plan_report.specs.declared.check_lines.TheConstants.{LOAD_SCALE}

-- the instance is what the network stands for, with some model
pub record IsReadFrom (net : NetworkFile) (p : Parts) : Type 0 where
  pub model : ModelFile
  pub reads : ReadsAs net model p

-- the network names each link and each demand of the instance
pub record HasNames (net : NetworkFile) (p : Parts) : Type 0 where
  pub links : length net.links ≡ length p.links
  pub demands : length net.demands ≡ length p.demands

-- a load or a capacity, in units
abbrev pub load_text : ℕ → List ℕ
load_text load = grains_text load LOAD_SCALE

-- the name of the node of this number
abbrev pub node_name : NetworkFile → ℕ → List ℕ
node_name net n = slice_index_or (node_names net.nodes) n []

-- the name of the link of this number
abbrev pub link_name : NetworkFile → ℕ → List ℕ
link_name net e = slice_index_or (link_names net.links) e []

-- the name of the demand of this number
abbrev pub demand_name : NetworkFile → ℕ → List ℕ
demand_name net k = slice_index_or (demand_names net.demands) k []

-- the load of a link's other place, of its direction from target to source, where it has one
unfoldable pub back_text : Parts → ℕ → List ℕ
back_text p load = if is_two_way p.orient then codes " back " ++ load_text load else []

-- the load of a link's place, of both directions together where they share it, that of its other place, and the link's capacity, with what is installed before
abbrev pub traffic_text : Parts → Design → ℕ → List ℕ
traffic_text p d e =
    codes " load " ++ load_text (there_of p (load_at p d) e) ++ back_text p (back_of p (load_at p d) e)
    ++ codes " capacity " ++ load_text (capacity_with (link_at p e) (counts_at d e))

-- how often each module of a link is installed, and what its routing and its modules cost
abbrev pub installed_text : Parts → Design → ℕ → List ℕ
installed_text p d e = codes " modules" ++ numbers (counts_at d e) ++ codes " cost " ++ cost_text (link_cost p d e)

-- the line of a link
abbrev pub link_line : NetworkFile → Parts → Design → ℕ → List ℕ
link_line net p d e = codes "LINK " ++ link_name net e ++ traffic_text p d e ++ installed_text p d e ++ codes "\n"

-- the names of the links of a path, each behind a blank
abbrev pub way_text : NetworkFile → List ArcId → List ℕ
way_text net arcs = flat_map (λ a. 32 ∷ link_name net (link_of a)) arcs

-- the line of a demand: the links of its path in order
abbrev pub demand_line : NetworkFile → Design → ℕ → List ℕ
demand_line net d k = codes "DEMAND " ++ demand_name net k ++ way_text net (path_at d k) ++ codes "\n"

-- a line for each of so many links
abbrev pub link_report : NetworkFile → Parts → Design → ℕ → List ℕ
link_report net p d count = flat_map (link_line net p d) (range_with_len 0 count)

-- a line for each of so many demands
abbrev pub demand_report : NetworkFile → Design → ℕ → List ℕ
demand_report net d count = flat_map (demand_line net d) (range_with_len 0 count)

-- a design with its cost: the cost, then the links, then the demands; or that there is none
abbrev pub design_text : NetworkFile → Parts → Option (ℕ × Design) → List ℕ
design_text net p None = codes "none\n"
design_text net p (Some design) =
    cost_text design.0 ++ codes "\n" ++ link_report net p design.1 (length p.links) ++ demand_report net design.1 (length p.demands)

-- the line of the count of cuts, where there is a cut
unfoldable pub cuts_text : ℕ → List ℕ
cuts_text count = if nat_lt 0 count then codes "CUTS" ++ numbers (count ∷ []) ++ codes "\n" else []

-- the text of a report: what the plan claims, how many cuts it has, and its design by the names of the network
abbrev pub report_text : NetworkFile → Parts → Plan → List ℕ
report_text net p plan = codes "STATUS " ++ status_word plan.status ++ codes "\n" ++ cuts_text (length plan.cuts) ++ codes "COST " ++ design_text net p plan.design

-- ---- trials

-- the word for a cost and the cost, where there is one
abbrev pub trial_cost : Option (ℕ × Design) → List ℕ
trial_cost None = []
trial_cost (Some design) = codes " cost " ++ cost_text design.0

-- the word for a bound and the bound, where the plan is undecided
abbrev pub trial_bound : PlanStatus → Option ℤ → List ℕ
trial_bound Optimal bound = []
trial_bound Infeasible bound = []
trial_bound Undecided bound = codes " bound " ++ bound_text bound

-- the line of a plan of an instance: the sizes of the instance, and what the plan claims
abbrev pub trial_line : Parts → Plan → List ℕ
trial_line p plan =
    codes "TRIAL" ++ sizes_text p ++ codes " " ++ status_word plan.status ++ trial_cost plan.design ++ trial_bound plan.status plan.bound ++ codes "\n"

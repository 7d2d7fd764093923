-- The line of a verdict on a plan. It ends with a line feed; its words are parted by one blank, which is 32. Costs and bounds are decimals in units of cost.
use Rattle.std.specs.Prelude.{ℕ, suc, List, [], ◌∷◌, ◌++◌, codes, Option, Some, None, Result, Ok, Err, ℤ, pos, negsuc}
use Rattle.plan_base.specs.declared.design_fault.DesignFault.{DesignFault}
use Rattle.plan_base.specs.declared.design_fault.DesignFault.TheVariants.{WrongCount, NotAPath, Repeats, CountShape, Short, TooLong}
use Rattle.plan_base.specs.declared.path.Design.{Design as PlannedDesign}
use Rattle.proof_tree.specs.declared.plan.PlanStatus.{PlanStatus}
use Rattle.proof_tree.specs.declared.plan.PlanStatus.TheVariants.{Optimal, Infeasible, Undecided}
use Rattle.proof_tree.specs.declared.plan.Plan.{Plan}
use Rattle.cert_verifier.specs.declared.rejected.Rejected.{Rejected}
use Rattle.cert_verifier.specs.declared.rejected.Rejected.TheVariants.{Design, Cost, Split, Leaf, Counts, Bound, Kind, OutOfMemory, Size, Budget, Cuts}
use Rattle.scaled_numbers.specs.Canonical.{grains_text}
use Rattle.plan_report.specs.Lines.{line}
use Rattle.plan_report.specs.declared.verdict_lines.TheConstants.{COST_SCALE}

-- a cost
abbrev pub cost_text : ℕ → List ℕ
cost_text cost = grains_text cost COST_SCALE

-- a bound, with a minus where it is negative
abbrev pub signed_text : ℤ → List ℕ
signed_text (pos n) = cost_text n
signed_text (negsuc n) = 45 ∷ cost_text (suc n)

-- a bound, or that there is none
abbrev pub bound_text : Option ℤ → List ℕ
bound_text None = codes "none"
bound_text (Some bound) = signed_text bound

-- ---- accepted plans

-- the word of a plan's status
abbrev pub status_word : PlanStatus → List ℕ
status_word Optimal = codes "OPTIMAL"
status_word Infeasible = codes "INFEASIBLE"
status_word Undecided = codes "UNDECIDED"

-- a blank and the stated cost, where there is one
abbrev pub cost_part : Option (ℕ × PlannedDesign) → List ℕ
cost_part None = []
cost_part (Some design) = 32 ∷ cost_text design.0

-- the line of an accepted plan: its status, and its cost where it has one
abbrev pub accepted_line : Plan → List ℕ
accepted_line plan = codes "ACCEPTED " ++ status_word plan.status ++ cost_part plan.design ++ codes "\n"

-- ---- rejected plans

-- the number of a fault of a design
abbrev pub design_fault_number : DesignFault → ℕ
design_fault_number WrongCount = 1
design_fault_number (NotAPath demand place) = 2
design_fault_number (Repeats demand place) = 3
design_fault_number (CountShape link) = 4
design_fault_number (Short link load capacity) = 5
design_fault_number (TooLong demand arcs limit) = 6

-- the line of a plan with another cost than it states
abbrev pub costs_line : ℕ → ℕ → List ℕ
costs_line stated found = codes "REJECTED 2" ++ 32 ∷ cost_text stated ++ 32 ∷ cost_text found ++ codes "\n"

-- the line of a plan with another bound than it states
abbrev pub bounds_line : Option ℤ → Option ℤ → List ℕ
bounds_line stated found = codes "REJECTED 6" ++ 32 ∷ bound_text stated ++ 32 ∷ bound_text found ++ codes "\n"

-- the numbers that a rejected plan's line begins with
abbrev rejected : List ℕ → List ℕ
rejected ns = line (codes "REJECTED") ns

-- the line of a plan that breaks a rule: the number of the rejection, and its values
abbrev pub rejected_line : Rejected → List ℕ
rejected_line (Design fault) = rejected (1 ∷ design_fault_number fault ∷ [])
rejected_line (Cost stated found) = costs_line stated found
rejected_line (Split index rule) = rejected (3 ∷ index ∷ rule ∷ [])
rejected_line (Leaf index rule) = rejected (4 ∷ index ∷ rule ∷ [])
rejected_line (Counts stated found) = rejected (5 ∷ stated ∷ found ∷ [])
rejected_line (Bound stated found) = bounds_line stated found
rejected_line (Kind index) = rejected (7 ∷ index ∷ [])
rejected_line OutOfMemory = rejected (8 ∷ [])
rejected_line Size = rejected (9 ∷ [])
rejected_line (Budget examined budget) = rejected (10 ∷ examined ∷ budget ∷ [])
rejected_line (Cuts index) = rejected (11 ∷ index ∷ [])

-- the line of a verdict
abbrev pub verdict_line : {A : Type 0} → Plan → Result A Rejected → List ℕ
verdict_line plan (Ok accepted) = accepted_line plan
verdict_line plan (Err fault) = rejected_line fault

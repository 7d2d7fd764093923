-- What the answers of the code say of what is read. No public clause cites this module.
use Rattle.std.specs.Prelude.{◌≡◌, ◌≤◌, ℕ, List, length, Result, Ok, Err, Option, Vec}
use Rattle.std.specs.Borrow.{Bor}
use Rattle.std.specs.Option.{option_map}
use Rattle.plan_base.specs.declared.ids.ArcId.{ArcId}
use Rattle.proof_tree.specs.declared.tree.TreeNode.{TreeNode}
use Rattle.proof_tree.specs.declared.plan.Plan.{Plan}
use Rattle.cert_format.specs.declared.fault.PlanFault.{PlanFault}
use Rattle.cert_format.specs.declared.fault.PlanFault.TheVariants as faults
use Rattle.cert_format.specs.declared.reading.Draft.{Draft}
use Rattle.plan_tokens.specs.declared.stop.Stop.{Stop}
use Rattle.plan_tokens.specs.declared.stop.Stop.TheVariants.{Memory, At}
use Rattle.plan_tokens.specs.Lines.{Line, lines_of}
use Rattle.proof_tree.specs.declared.limits.TheConstants.{MAX_RECORDS}
use Rattle.cert_format.specs.Lists.{named_from}
use Rattle.cert_format.specs.Drafts.{Stated}
use Rattle.cert_format.specs.Reading.{stated_with}

-- reading stops at these bytes, of which so many are left
pub record StopsAt {Y : Type 0} (left : ℕ) (read : Result Y (List Line)) : Type 0 where
  pub bytes : List ℕ
  pub stops : read ≡ Err (lines_of bytes)
  pub count : left ≡ length bytes

-- reading stops there, where memory did not run out
abbrev pub Stops : {Y : Type 0} → Stop → Result Y (List Line) → Type 0
Stops Memory read = Unit {0}
Stops (At left) read = StopsAt left read

-- the answer is what is read, or where reading stops
abbrev pub Reads : {X Y : Type 0} → (X → Y) → Result X Stop → Result Y (List Line) → Type 0
Reads view (Ok x) read = read ≡ Ok (view x)
Reads view (Err e) read = Stops e read

-- the fault is the one that is read, where memory did not run out
abbrev pub StopsWith : PlanFault → Result Plan PlanFault → Type 0
StopsWith faults.OutOfMemory read = Unit {0}
StopsWith (faults.Line at) read = read ≡ Err (faults.Line at)
StopsWith (faults.Ended at) read = read ≡ Err (faults.Ended at)

-- the answer is what is read, or memory ran out
abbrev pub GivesPlan : Result Plan PlanFault → Result Plan PlanFault → Type 0
GivesPlan (Ok plan) read = read ≡ Ok plan
GivesPlan (Err e) read = StopsWith e read

-- ---- what is seen of values of the code

-- arcs that were found, and the numbers behind them
abbrev pub side_view : {Z : Type 0} → Option (Vec ArcId Z × Bor (List ℕ)) → Option (List ArcId × List ℕ)
side_view found = option_map (λ x. (x.0.items, x.1.now)) found

-- arcs of two sides
abbrev pub sides_view : {Z : Type 0} → Option (Vec ArcId Z × Vec ArcId Z) → Option (List ArcId × List ArcId)
sides_view found = option_map (λ x. (x.0.items, x.1.items)) found

-- a value, and the lines of the text behind it
abbrev pub seen_value : {A : Type 0} → A × Bor (List ℕ) → A × List Line
seen_value x = (x.0, lines_of x.1.now)

-- items, and the lines of the text behind them
abbrev pub seen_items : {A Z : Type 0} → Vec A Z × Bor (List ℕ) → List A × List Line
seen_items x = (x.0.items, lines_of x.1.now)

-- a stated count, records, and the lines of the text behind them
abbrev pub seen_tree : {Z : Type 0} → ℕ × Vec TreeNode Z × ℕ × Bor (List ℕ) → (ℕ × List TreeNode) × List Line
seen_tree x = ((x.0, x.1.items), lines_of x.3.now)

-- records, and the lines of the text behind them
abbrev pub seen_records : {Z : Type 0} → Vec TreeNode Z × ℕ × Bor (List ℕ) → List TreeNode × List Line
seen_records x = (x.0.items, lines_of x.2.now)

-- what a draft states
abbrev pub drafted : Draft → Stated
drafted d = stated_with d.head d.design d.bound d.cuts d.stated d.ground.lists (d.count, d.records.items)

-- a draft has few enough records, and its count of named price lists is that of its records
pub record IsCounted (d : Draft) : Type 0 where
  pub few : length d.records.items ≤ MAX_RECORDS
  pub named : d.named ≡ named_from d.ground.form d.ground.lists 0 d.records.items
  pub form : d.ground.form ≡ d.head.form

-- a draft, and the lines of the text behind it
abbrev pub seen_draft : Draft × Bor (List ℕ) → Stated × List Line
seen_draft x = (drafted x.0, lines_of x.1.now)

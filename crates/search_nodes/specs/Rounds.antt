-- What a node and a place for a round keep, and what is published of a round; no public contract of the pool cites it.
use Rattle.std.specs.Prelude.{ℕ, ◌≡◌, ◌≤◌, ◌+◌, Bool, not, false, List, length, map, Option, Some, None, option_map, IsSomeAnd, IfSome, IsSome, IsTrue, is_some, ◌||◌, true, ⊤, ℤ, int_lt, [], ◌∷◌}
use Rattle.plan_base.specs.declared.parts.Parts.{Parts}
use Rattle.plan_base.specs.declared.ids.BranchId.{BranchId}
use Rattle.plan_base.specs.Places.{places}
use Rattle.link_steps.specs.Ranges.{AreRanges}
use Rattle.dual_versions.specs.declared.published.Published.{Published}
use Rattle.bound_assembly.specs.Rounds.{RoundState}
use Rattle.proof_tree.specs.declared.cuts.Cut.{Cut}
use Rattle.proof_tree.specs.declared.tree.Evidence.{Evidence}
use Rattle.proof_tree.specs.declared.tree.Evidence.TheVariants as evidence
use Rattle.search_nodes.specs.declared.reason.Reason.{Reason}
use Rattle.search_nodes.specs.declared.reason.Reason.TheVariants as reason
use Rattle.search_machine.specs.declared.limits.TheConstants.{MAX_VERSIONS}
use Rattle.plan_base.specs.declared.ids.ArcId.{ArcId}
use Rattle.column_pool.specs.Columns.{Columns, columns_at, is_column}
use Rattle.search_machine.specs.Gathering.{gathered}
use Rattle.search_machine.specs.Nodes.{IsSoundRound}
use Rattle.search_machine.specs.declared.tree.Found.{Found}
use Rattle.search_machine.specs.declared.tree.HeldCut.{HeldCut}
use Rattle.branch_tree.specs.declared.node.Fate.{Fate}
use Rattle.branch_tree.specs.declared.node.Fate.TheVariants.{Undone}
use Rattle.search_machine.specs.State.{Round, Best, Node, restriction_of, ranges_of, kept_prices}

-- the prices and version of the round, under this node, where it has the slot; else nothing
abbrev pub IsPublishedBy : Option Round → BranchId → ℕ → Option Published → Type 0
IsPublishedBy round id slot None = IsSomeAnd round (λ r. r.slot ≡ slot) → ⊥
IsPublishedBy round id slot (Some published) =
    IsSomeAnd round (λ r. (r.slot ≡ slot) × (published ≡ record { node = id; version = r.version; prices = r.prices }))

-- the bound with the prices in the room beside it
abbrev pub best_in : Option ℤ → List ℕ → Option Best
best_in None prices = None
best_in (Some bound) prices = Some (record { bound = bound; prices = prices })

-- the price of a path that was found, if it was
abbrev pub price_in : Option Found → Option ℕ
price_in found = option_map (λ x. x.price) found

-- the lengths of a place have begun, and are the prices of the paths that were found
pub record IsKeptRound (lengths : RoundState) (found : List (Option Found)) : Type 0 where
  pub begun : IsTrue lengths.begun
  pub same : lengths.lengths ≡ map price_in found

-- a node has room for its best prices, and for a crowd proof while it is an open leaf
pub record HasRooms (first best : List ℕ) (fate : Fate) (crowd : Option (List ℕ)) : Type 0 where
  pub for_best : length best ≡ length first
  pub for_crowd : fate ≡ Undone → IsSomeAnd crowd (λ prices. length prices ≡ length first)

-- the crowd proof, or else the bound at these prices
abbrev pub proof_of : Option (List ℕ) → List ℕ → Evidence
proof_of (Some prices) best = evidence.Crowd prices
proof_of None best = evidence.Bound best

-- the cut that is held; the value without one is never read
abbrev pub cut_proof : Option HeldCut → Evidence
cut_proof (Some cut) = evidence.Cut cut.demand cut.reached
cut_proof None = evidence.Routed

-- the evidence by which a node is closed for a reason
abbrev pub evidence_for : Node → Reason → Evidence
evidence_for node reason.Recorded = proof_of node.crowd (kept_prices node)
evidence_for node reason.HeldCut = cut_proof node.cut
evidence_for node (reason.Shown found) = found

-- what the reason needs is there
abbrev pub HasReason : Node → Reason → Type 0
HasReason node reason.Recorded = (is_some node.crowd || is_some node.best) ≡ true
HasReason node reason.HeldCut = IsSome node.cut
HasReason node (reason.Shown found) = ⊤

-- the prices of the paths of a round, as lengths
abbrev pub lengths_of : Round → List (Option ℕ)
lengths_of round = map price_in round.found

-- no bound is recorded, or it is less than this one
abbrev pub is_below : Option ℤ → ℤ → Bool
is_below None bound = true
is_below (Some held) bound = int_lt held bound

-- an open leaf, whose round is sound, with one first price for each place and one rate for each cut, ranges with loads and not too
-- many complete versions
pub record MayComplete (p : Parts) (cuts : List Cut) (node : Node) : Type 0 where
  pub undone : node.fate ≡ Undone
  pub price_count : length node.first_prices ≡ places p + length cuts
  pub ranges : AreRanges p (ranges_of p node)
  pub version_count : node.completed ≤ MAX_VERSIONS
  pub is_sound : IfSome node.round (λ round. IsSoundRound p cuts (restriction_of node) round)

-- the paths that were found, in order
abbrev pub paths_of : List (Option Found) → List (List ArcId)
paths_of [] = []
paths_of (None ∷ found) = paths_of found
paths_of (Some one ∷ found) = one.path ∷ paths_of found

-- a path was found for the demand, and it is none of its columns
abbrev pub is_ungathered : Columns → ℕ → Option Found → Bool
is_ungathered columns k None = false
is_ungathered columns k (Some found) = not (is_column (columns_at columns k) found.path)

-- the columns are the old ones with the paths of so many of the first demands added
pub record IsFrontAdded (old : Columns) (found : List (Option Found)) (new : Columns) : Type 0 where
  pub front : ℕ
  pub within : front ≤ length found
  pub becomes : new ≡ gathered old found front

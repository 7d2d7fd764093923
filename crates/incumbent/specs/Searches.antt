-- How many searches there are, when they are due, and what they leave.
use Rattle.std.specs.Prelude.{ℕ, Bool, true, false, not, ◌≡◌, ◌<◌, ◌≤◌, ◌+◌, ◌-◌, ◌*◌, ◌/◌, ◌%◌, ◌^◌, ◌==◌, nat_lt, max, min, length, slice_get, Option, None, IfSome, IsSomeAnd, if◌then◌else◌}
use Rattle.plan_base.specs.declared.parts.Parts.{Parts}
use Rattle.plan_base.specs.declared.path.Design.{Design}
use Rattle.plan_base.specs.Designs.{cost_of, IsGoodDesign}
use Rattle.plan_base.specs.Facts.{total_load}
use Rattle.completions.specs.Links.{IsPriced}
use Rattle.incumbent.specs.declared.cooling.TheConstants.{WORK, WIDE_NODES, MOST_SEARCHES, LEAST_SEARCHES, SEARCHES_A_DEMAND}
use Rattle.incumbent.specs.declared.ration.DesignSearch.{DesignSearch}
use Rattle.incumbent.specs.declared.dealing.TheConstants.{EARLIER, PARTS, LATER_PARTS, MOST_SHARES, LATER_SHARES}
use Rattle.incumbent.specs.declared.ration.TheConstants.{DUE, MARGIN}

-- how many steps one search may take, nodes by nodes and arcs; on wide networks more, as their paths are longer
abbrev pub search_work : Parts → ℕ
search_work p = p.nodes * p.nodes * max p.nodes WIDE_NODES / WIDE_NODES + 8 * length p.links

-- how many searches a network is worth: as many as the work allows and at least a few, but no more than its demands need
abbrev pub search_limit : Parts → ℕ
search_limit p = min (min (max (WORK / max (search_work p) 1) LEAST_SEARCHES) (SEARCHES_A_DEMAND * length p.demands)) MOST_SEARCHES

-- how many nodes are examined when a search is due that one seat makes at so many: where there are several, half as many
abbrev pub due_of : ℕ → ℕ → ℕ
due_of seats due = if seats == 1 then due else due / EARLIER

-- the search at this place among all of them is due once so many nodes are examined
abbrev pub IsDue : ℕ → ℕ → ℕ → Type 0
IsDue seats place examined = IsSomeAnd (slice_get DUE place) (λ due. due_of seats due ≤ examined)

-- a search has parts left once a seat has made so many: of several seats each makes some parts of the first one, and the others in as many parts; one seat makes each whole
abbrev pub has_parts_left : ℕ → ℕ → Bool
has_parts_left seats searches = if seats == 1 then false else (if nat_lt searches PARTS then true else not ((searches - PARTS) % LATER_PARTS == 0))

-- how many equal shares of the searches for paths there are, of which the next search spends one: one seat spends all, of several a later part of the first search a fourth of its first part, and a part of another search a fourth of all
abbrev pub shares_of : ℕ → ℕ → ℕ → ℕ
shares_of seats place searches = if seats == 1 then 1 else (if nat_lt 0 place then LATER_PARTS else (if searches == 0 then min seats MOST_SHARES else LATER_SHARES * min seats MOST_SHARES))

-- the place of the search that a seat makes after one at this place, once it has made so many: all make their parts of the first one, and the others are dealt out in turn, each with all its parts
abbrev pub next_place : ℕ → ℕ → ℕ → ℕ → ℕ
next_place seat seats searches place = if has_parts_left seats searches then place else min (if place == 0 then seat + 1 else place + seats) (2 ^ 32 - 1)

-- no design was asked for yet, at this seat of so many
pub record IsOpening (number count : ℕ) (s : DesignSearch) : Type 0 where
  pub seat : s.seat ≡ number
  pub seats : s.seats ≡ count
  pub asked : s.asked ≡ 0
  pub searches : s.searches ≡ 0
  pub place : s.place ≡ 0
  pub best : s.best ≡ None

-- a search was due and is made, and the next one has the place after it
pub record HasSearched (old : DesignSearch) (examined : ℕ) (new : DesignSearch) : Type 0 where
  pub was_due : IsDue old.seats old.place examined
  pub place : new.place ≡ next_place old.seat old.seats new.searches old.place
  pub searches : new.searches ≡ min (old.searches + 1) (2 ^ 32 - 1)

-- no search is made
pub record HasWaited (old new : DesignSearch) : Type 0 where
  pub place : new.place ≡ old.place
  pub searches : new.searches ≡ old.searches
  pub best : new.best ≡ old.best

-- a good design that costs less than another, if there is one and it is good
pub record IsCheaper (p : Parts) (design : Design) (best : Option Design) : Type 0 where
  pub good : IsGoodDesign p design
  pub less : IfSome best (λ best. IsGoodDesign p best → cost_of p design < cost_of p best)

-- there is a design, and where it is good, and so is another one, its cost without one part in so many is less than the cost of that
abbrev pub IsWorth : Parts → Option Design → Option Design → Type 0
IsWorth p design other = IsSomeAnd design (λ design. IsGoodDesign p design → IfSome other (λ other. IsGoodDesign p other → cost_of p design - cost_of p design / MARGIN < cost_of p other))

-- how far more load is looked at: 2, 4, 8 or 16 times the mean load of a demand, as drawn, in load grains
abbrev pub far_load : Parts → ℕ → ℕ
far_load p draw = 2 ^ (draw + 1) * max (total_load p / length p.demands) 1

-- a feasible design in shape, with its cost, which is no more than that of the design that was searched from, in cost grains
pub record IsImproved (p : Parts) (design : Design) (found : ℕ × Design) : Type 0 where
  pub priced : IsPriced p found
  pub not_dearer : found.0 ≤ cost_of p design

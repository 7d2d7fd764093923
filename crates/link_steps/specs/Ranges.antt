-- How much load each place may carry.
use Rattle.std.specs.Prelude.{ℕ, zero, suc, ◌≡◌, ◌<◌, ◌≤◌, ◌+◌, ◌*◌, List, [], ◌∷◌, ◌++◌, length, slice_index_or, slice_set, if◌then◌else◌}
use Rattle.plan_base.specs.declared.parts.Parts.{Parts}
use Rattle.plan_base.specs.Facts.{top_load}
use Rattle.plan_base.specs.Arcs.{link_at}
use Rattle.plan_base.specs.Places.{is_two_way, places, link_of_place}
use Rattle.link_steps.specs.declared.range.LoadRange.{LoadRange}

-- no load
abbrev pub no_range : LoadRange
no_range = record { least = 0; most = 0 }

-- the range of the place of this number
abbrev pub range_at : List LoadRange → ℕ → LoadRange
range_at ranges q = slice_index_or ranges q no_range

-- all loads of a place: up to the top load of its link
abbrev pub whole_range : Parts → ℕ → LoadRange
whole_range p q = record { least = 0; most = top_load p (link_at p (link_of_place p q)) }

-- the whole ranges of the places before a count
abbrev pub whole_before : Parts → ℕ → List LoadRange
whole_before p zero = []
whole_before p (suc n) = whole_before p n ++ (whole_range p n ∷ [])

-- the whole range of each place
abbrev pub whole_ranges : Parts → List LoadRange
whole_ranges p = whole_before p (places p)

-- the range up to this load
abbrev pub ends_at : LoadRange → ℕ → LoadRange
ends_at range most = record range { most = most }

-- the range from this load on
abbrev pub begins_at : LoadRange → ℕ → LoadRange
begins_at range least = record range { least = least }

-- the ranges with this one at a place
abbrev pub with_range : List LoadRange → ℕ → LoadRange → List LoadRange
with_range ranges q range = slice_set ranges q range

-- the load is in the range
pub record IsIn (range : LoadRange) (load : ℕ) : Type 0 where
  pub enough : range.least ≤ load
  pub few : load ≤ range.most

-- it has a load, and none above the top load
pub record IsRange (top : ℕ) (range : LoadRange) : Type 0 where
  pub some : range.least ≤ range.most
  pub carried : range.most ≤ top

-- the ranges of the places before a count have loads, and none above the top load of the place's link
abbrev pub AreRangesBefore : Parts → List LoadRange → ℕ → Type 0
AreRangesBefore p ranges count = (q : ℕ) → q < count → IsRange (top_load p (link_at p (link_of_place p q))) (range_at ranges q)

-- a range for each place, with a load and none above the top load of its link
pub record AreRanges (p : Parts) (ranges : List LoadRange) : Type 0 where
  pub count : length ranges ≡ places p
  pub each : AreRangesBefore p ranges (places p)

-- the range of a link's place that its arc from source to target is of
abbrev pub range_there : Parts → List LoadRange → ℕ → LoadRange
range_there p ranges e = range_at ranges (if is_two_way p.orient then 2 * e else e)

-- the range of the place that its arc back is of, where that is another place, and else no load
abbrev pub range_back : Parts → List LoadRange → ℕ → LoadRange
range_back p ranges e = if is_two_way p.orient then range_at ranges (2 * e + 1) else no_range

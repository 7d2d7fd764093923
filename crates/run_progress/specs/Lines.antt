-- The line that says how far a run is.
use Rattle.std.specs.Prelude.{ℕ, ◌/◌, ◌%◌, List, [], ◌++◌, codes, decimal, Option, Some, None}
use Rattle.plan_io.specs.declared.gate.Standing.{Standing}
use Rattle.scaled_numbers.specs.Canonical.{grains_text}
use Rattle.run_progress.specs.declared.line.TheConstants.{COST_SCALE}

-- the cost of the best design as plans write it, or that there is none
abbrev pub best_cost_text : Option ℕ → List ℕ
best_cost_text None = codes "no design yet"
best_cost_text (Some cost) = codes "cost " ++ grains_text cost COST_SCALE

-- the bound of a search, where one is told
abbrev pub search_bound_text : Option ℕ → List ℕ
search_bound_text None = []
search_bound_text (Some bound) = codes ", bound " ++ grains_text bound COST_SCALE

-- so many seconds as minutes and two digits of seconds
abbrev pub time_text : ℕ → List ℕ
time_text seconds = decimal (seconds / 60) ++ codes ":" ++ decimal (seconds % 60 / 10) ++ decimal (seconds % 60 % 10)

-- what is told of a search: the cost of the best design, the bound, nodes examined and to be examined at most, and how many workers there are
abbrev pub search_text : Standing → ℕ → List ℕ
search_text standing workers =
    best_cost_text standing.cost ++ search_bound_text standing.bound ++ codes ", nodes " ++ decimal standing.examined ++ codes " of " ++ decimal standing.budget
    ++ codes ", workers " ++ decimal workers

-- what is told of a run whose search was told of or not
abbrev pub standing_text : Option Standing → ℕ → List ℕ
standing_text None workers = codes "working"
standing_text (Some standing) workers = search_text standing workers

-- the time, and how far the run is
abbrev pub progress_text : Option Standing → ℕ → ℕ → List ℕ
progress_text standing workers seconds = time_text seconds ++ codes ", " ++ standing_text standing workers

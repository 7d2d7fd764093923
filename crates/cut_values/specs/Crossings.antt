-- The cuts that each place crosses, and what a table keeps.
use Rattle.std.specs.Prelude.{ℕ, zero, suc, ◌≡◌, ◌<◌, ◌≤◌, ◌+◌, ◌*◌, Bool, List, [], ◌∷◌, ◌++◌, All, length, slice_index, slice_index_or, nat_lt, if◌then◌else◌}
use Rattle.std.specs.List.{sum_by}
use Rattle.plan_base.specs.declared.parts.Parts.{Parts}
use Rattle.plan_base.specs.Facts.{price_limit}
use Rattle.plan_base.specs.Places.{is_two_way, places}
use Rattle.link_steps.specs.declared.rated.Rated.{Rated}
use Rattle.proof_tree.specs.declared.limits.TheConstants.{MAX_CUTS}
use Rattle.proof_tree.specs.declared.cuts.Cut.{Cut}
use Rattle.proof_tree.specs.Cuts.{place_crosses, batch_of, cut_at, IsCutList, AreRests}
use Rattle.cut_values.specs.declared.crossing.Crossing.{Crossing}

-- the list, with one more at its end where there is one
abbrev pub with_crossing : Bool → List Crossing → Crossing → List Crossing
with_crossing crosses list here = if crosses then list ++ (here ∷ []) else list

-- the cuts before a count that the place crosses, as it sees them
abbrev pub crossings_before : Parts → List Cut → ℕ → ℕ → List Crossing
crossings_before p cuts q zero = []
crossings_before p cuts q (suc n) = with_crossing (place_crosses p (cut_at cuts n).nodes q) (crossings_before p cuts q n) (record { number = n; batch = batch_of p (cut_at cuts n) q })

-- the cuts that the place crosses
abbrev pub crossings_on : Parts → List Cut → ℕ → List Crossing
crossings_on p cuts q = crossings_before p cuts q (length cuts)

-- those that the first place of a link crosses
abbrev pub crossings_there : Parts → List Cut → ℕ → List Crossing
crossings_there p cuts e = crossings_on p cuts (if is_two_way p.orient then 2 * e else e)

-- those that its second place crosses, none where it has one place
abbrev pub crossings_back : Parts → List Cut → ℕ → List Crossing
crossings_back p cuts e = if is_two_way p.orient then crossings_on p cuts (2 * e + 1) else []

-- one of them with its rate
abbrev pub rated_of : List ℕ → Crossing → Rated
rated_of rates c = record { batch = c.batch; rate = slice_index rates c.number }

-- those with a rate above 0
abbrev pub used : List ℕ → List Crossing → List Rated
used rates [] = []
used rates (c ∷ row) = if nat_lt 0 (slice_index rates c.number) then rated_of rates c ∷ used rates row else used rates row

-- each is of a cut below a count
abbrev pub AreNumbered : ℕ → List Crossing → Type 0
AreNumbered count row = All (λ c. c.number < count) row

-- their rates together
abbrev pub rates_on : List ℕ → List Crossing → ℕ
rates_on rates row = sum_by (λ c. slice_index rates c.number) row

-- each row has the cuts that its place crosses
abbrev pub AreCrossingRows : Parts → List Cut → List (List Crossing) → ℕ → Type 0
AreCrossingRows p cuts rows count = (q : ℕ) → q < count → slice_index_or rows q [] ≡ crossings_on p cuts q

-- what a table keeps of an instance and a list of cuts
pub record IsKept (p : Parts) (limit : ℕ) (cuts : List Cut) (rests : List ℕ) (rows : List (List Crossing)) : Type 0 where
  pub limit_is : limit ≡ price_limit p
  pub are_list : IsCutList p cuts
  pub are_rests : AreRests p cuts rests
  pub count : length rows ≡ places p
  pub are_rows : AreCrossingRows p cuts rows (places p)

-- the room for the rates of a place, and how many of them are in it
pub record IsRoom (items : List Rated) (count : ℕ) : Type 0 where
  pub room : length items ≡ MAX_CUTS
  pub few : count ≤ MAX_CUTS

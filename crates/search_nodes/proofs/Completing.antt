-- What a sound round shows of its node's restriction, and a version that becomes complete.
use Rattle.std.proofs.Common.{◌≡◌, ℕ, zero, suc, ◌+◌, ◌*◌, ◌<◌, ◌≤◌, ◌⊎◌, inl, inr, Bool, true, false, List, length, get_or, map, slice_index, Option, Some, None, slice_get, refl, sym, ap, ap₂, subst, add-one, ◌∙◌, arith, ℤ}
use Rattle.std.specs.Prelude.{IfSome, IsSomeAnd, IsTrue, ◌↔◌}
use Rattle.std.proofs.Math.Nat.{mul-le-mul}
use Rattle.std.proofs.lemmas.List.{get_or_default, get_or_past}
use Rattle.std.proofs.lemmas.List.Sums.{sum_by-le}
use Rattle.std.proofs.lemmas.Option.{slice_get-get_or}
use Rattle.plan_base.specs.declared.ids.ArcId.{ArcId}
use Rattle.plan_base.specs.declared.parts.Parts.{Parts}
use Rattle.plan_base.specs.Facts.{IsInstance, IsDemand, price_limit}
use Rattle.plan_base.specs.Arcs.{demand_at, no_demand}
use Rattle.plan_base.specs.Places.{place_of}
use Rattle.plan_base.proofs.PathLaws.{length-IsSimplePath}
use Rattle.arc_restrict.specs.Restrictions.{Forbidden}
use Rattle.arc_restrict.specs.Prices.{AreWithinLimit, IsLeastPrice}
use Rattle.link_steps.specs.declared.range.LoadRange.{LoadRange}
use Rattle.proof_tree.specs.declared.cuts.Cut.{Cut}
use Rattle.path_pricing.specs.Priced.{IsLeastPath}
use Rattle.bound_assembly.specs.declared.limits.TheConstants.{MAX_PATH_LINKS}
use Rattle.bound_assembly.specs.Rounds.{RoundState}
use Rattle.bound_assembly.specs.RoundBounds.{AreShort, AreLeastLengths, IsRoundBound, IsRoundCrowd}
use Rattle.bound_assembly.proofs.LeastLengths.{round_bound-bound, round_crowd-closed, closed-round_crowd}
use Rattle.search_machine.specs.declared.tree.Found.{Found}
use Rattle.branch_tree.specs.declared.node.Fate.{Fate}
use Rattle.branch_tree.specs.declared.node.Fate.TheVariants.{Undone}
use Rattle.search_machine.specs.State.{Round, Best, Node, restriction_of, ranges_of, region_of, left_of}
use Rattle.search_machine.specs.Changes.{better_of, KeepsCrowd, TakesRound}
use Rattle.search_machine.specs.Offering.{with_found}
use Rattle.search_machine.specs.Nodes.{IsSoundRound, IsSoundNode}
use Rattle.search_nodes.specs.Rounds.{price_in, lengths_of, best_in, is_below, IsKeptRound, HasRooms, MayComplete}
use Rattle.search_nodes.proofs.KeptRounds.{at-map, length-map_price, left_of_kept}
use Rattle.search_machine.proofs.Offering.{with_found-sound}

-- The lengths of a place

-- a place has as many lengths as the list of what was found has entries
pub kept_count : (lengths : RoundState) (found : List (Option Found)) (n : ℕ) → IsKeptRound lengths found → length found ≡ n → length lengths.lengths ≡ n
kept_count lengths found n kept is = ap length kept.same ∙ (length-map_price found ∙ is)

-- where no found path's price is above the greatest that a path may have, no length of the place is
pub kept_short : (p : Parts) (lengths : RoundState) (found : List (Option Found)) → IsKeptRound lengths found → AreShort p (map price_in found) → AreShort p lengths.lengths
kept_short p lengths found kept short = subst (AreShort p) (sym kept.same) short

-- a bound from the lengths of a place is one from the prices of the found paths
pub kept_bound : (p : Parts) (cuts : List Cut) (ranges : List LoadRange) (lengths : RoundState) (found : List (Option Found)) (bound : Option ℤ) → IsKeptRound lengths found
    → IfSome bound (IsRoundBound p cuts ranges lengths.prices lengths.lengths) → IfSome bound (IsRoundBound p cuts ranges lengths.prices (map price_in found))
kept_bound p cuts ranges lengths found bound kept is = subst (λ (ls : List (Option ℕ)). IfSome bound (IsRoundBound p cuts ranges lengths.prices ls)) kept.same is

-- what tells whether the lengths of a place crowd the links tells it of the prices of the found paths
pub kept_crowd : (p : Parts) (ranges : List LoadRange) (lengths : RoundState) (found : List (Option Found)) (crowded : Bool) → IsKeptRound lengths found
    → IsTrue crowded ↔ IsRoundCrowd p ranges lengths.prices lengths.lengths → IsTrue crowded ↔ IsRoundCrowd p ranges lengths.prices (map price_in found)
kept_crowd p ranges lengths found crowded kept is = subst (λ (ls : List (Option ℕ)). IsTrue crowded ↔ IsRoundCrowd p ranges lengths.prices ls) kept.same is

-- what the lengths of a place tell of its round: the demands left, its size, its bound and its crowd
pub ruleset bounded_rounds = (left_of_kept, kept_count, kept_short, kept_bound, kept_crowd)

-- The better bound

-- where no bound is recorded or a lower one, the better of the two is the new bound with its prices
pub better_taken : (best : Option ℤ) (room : List ℕ) (bound : ℤ) (prices : List ℕ) → is_below best bound ≡ true
    → Some (record { bound = bound; prices = prices }) ≡ Some (better_of (best_in best room) bound prices)
better_taken None room bound prices less = refl
better_taken (Some held) room bound prices less = rw less refl

-- where the recorded bound is not below the new one, the better of the two is the recorded one
pub better_kept : (best : Option ℤ) (room : List ℕ) (bound : ℤ) (prices : List ℕ) → is_below best bound ≡ false
    → best_in best room ≡ Some (better_of (best_in best room) bound prices)
better_kept None room bound prices more = absurd (let bad : true ≡ false = more in cc)
better_kept (Some held) room bound prices more = rw more refl

-- which is the better of the recorded bound and a new one
pub ruleset better_bounds = (better_taken, better_kept)

-- A sound round

either_way : (x y : ℕ) → (x ≤ y) ⊎ (y < x)
either_way x y = grind arith

price-le : (p : Parts) (prices : List ℕ) → AreWithinLimit p prices → (i : ℕ) → slice_index prices i ≤ price_limit p
price-le p prices within i = elim (either_way (length prices) i) [
  | inl past ↦ (let none : slice_index prices i ≡ 0 = get_or_past prices i 0 past in omega arith)
  | inr below ↦ within i 0 below
]

module _ (p : Parts) (cuts : List Cut) (r : Forbidden) (round : Round) (inst : IsInstance p) (h : IsSoundRound p cuts r round) where
  -- a simple path has at most so many arcs, and the place of each has a price within the limit
  path-short : (k : ℕ) (path : List ArcId) (price : ℕ) → k < length p.demands → IsLeastPath p round.prices k r path price → price ≤ MAX_PATH_LINKS * price_limit p
  path-short k path price below least =
      let demand : IsDemand p.nodes (demand_at p k) = inst.demands k no_demand below in
      let few = length-IsSimplePath p (demand_at p k) path inst demand.source least.permitted.simple in
      let nodes = inst.nodes in
      let each = sum_by-le (λ a. slice_index round.prices (place_of p a)) (price_limit p) path (λ i d within. price-le p round.prices h.prices.lawful.prices_within (place_of p (get_or path i d))) in
      let most : length path * price_limit p ≤ MAX_PATH_LINKS * price_limit p = mul-le-mul (let few' : length path ≤ MAX_PATH_LINKS = omega arith in few') (let same : price_limit p ≤ price_limit p = omega arith in same) in
      let is = least.price_is in
      omega arith

  found-least : (k : ℕ) (found : Found) → k < length p.demands → get_or round.found k None ≡ Some found → IsLeastPath p round.prices k r found.path found.price
  found-least k found below is =
      h.least k found (slice_get-get_or round.found k None (let c = h.count in omega arith) ∙ ap (λ (o : Option Found). Some o) is)

  -- each length of a sound round is at most the price limit times the most links of a path
  pub lengths-short : AreShort p (lengths_of round)
  lengths-short k d within =
      let size = length-map_price round.found in
      let c = h.count in
      let below : k < length p.demands = omega arith in
      subst (λ (o : Option ℕ). IfSome o (λ price. price ≤ MAX_PATH_LINKS * price_limit p))
      (sym (get_or_default (lengths_of round) k d None within ∙ at-map round.found k)) (by_cases below (get_or round.found k None) refl)
    where
      by_cases : k < length p.demands → (o : Option Found) → get_or round.found k None ≡ o → IfSome (price_in o) (λ price. price ≤ MAX_PATH_LINKS * price_limit p)
      by_cases below None is = tt
      by_cases below (Some found) is = path-short k found.path found.price below (found-least k found below is)

  -- each length of a sound round is the least price of its demand
  pub lengths-least : AreLeastLengths p r round.prices (lengths_of round)
  lengths-least k price below is = by_cases (get_or round.found k None) refl (sym (at-map round.found k) ∙ is)
    where
      by_cases : (o : Option Found) → get_or round.found k None ≡ o → price_in o ≡ Some price → IsLeastPrice p r round.prices k price
      by_cases None at none = absurd (cc)
      by_cases (Some found) at some =
          let same : found.price ≡ price = cc in
          subst (IsLeastPrice p r round.prices k) same (found-least k found below at).least

-- A version that becomes complete

-- the round shows that it crowds the links in their ranges, and the node has its prices as crowd proof; or else what it had
abbrev pub TakesCrowd : Parts → List LoadRange → Round → Option (List ℕ) → Option (List ℕ) → Type 0
TakesCrowd p ranges round old new =
    (IsRoundCrowd p ranges round.prices (lengths_of round) × (new ≡ Some round.prices))
    ⊎ ((IsRoundCrowd p ranges round.prices (lengths_of round) → ⊥) × (new ≡ old))

module _ (p : Parts) (cuts : List Cut) (old : Node) (round : Round) (is : old.round ≡ Some round) where
  -- a round that is not complete changes nothing
  pub goes-on : 0 < left_of round → TakesRound p cuts old round old
  goes-on left = inr (record { incomplete = left; becomes = ap (λ (o : Option Round). let x : Node = record old { round = o } in x) is })

  module _ (inst : IsInstance p) (h : IsSoundRound p cuts (restriction_of old) round) where
    keeps-crowd : (bound : ℤ) (crowd : Option (List ℕ)) → IsRoundBound p cuts (ranges_of p old) round.prices (lengths_of round) bound → TakesCrowd p (ranges_of p old) round old.crowd crowd
        → KeepsCrowd p old round.prices crowd
    keeps-crowd bound crowd all takes =
        let g = region_of p old in
        let least = lengths-least p cuts (restriction_of old) round inst h in
        elim takes [
          | inl w ↦ inl (round_crowd-closed p g round.prices (lengths_of round) h.prices.lawful.prices_within least w.0, w.1)
          | inr w ↦ inr ((λ closed. w.0 (closed-round_crowd p g round.prices (lengths_of round) all.complete least closed)), w.1)
        ]

    -- a node with a complete round takes it when its bound, its crowd proof and one more version are recorded
    pub completes : (bound : ℤ) (crowd : Option (List ℕ)) (new : Node) → left_of round ≡ 0 → IsRoundBound p cuts (ranges_of p old) round.prices (lengths_of round) bound
        → TakesCrowd p (ranges_of p old) round old.crowd crowd
        → new ≡ record old { best = Some (better_of old.best bound round.prices); completed = suc old.completed; crowd = crowd } → TakesRound p cuts old round new
    completes bound crowd new complete all takes becomes = inl (record {
      complete = complete;
      bound = bound;
      crowd = crowd;
      is_bound = round_bound-bound p cuts (region_of p old) round.prices (lengths_of round) bound (lengths-least p cuts (restriction_of old) round inst h) all;
      is_crowd = keeps-crowd bound crowd all takes;
      becomes = becomes ∙ ap (λ (o : Option Round). let x : Node = record old { best = Some (better_of old.best bound round.prices); completed = suc old.completed; crowd = crowd; round = o } in x) is;
    })

-- The rooms

-- a node keeps its rooms when its best prices are replaced by as many others
pub rooms-kept : (first best new : List ℕ) (fate : Fate) (crowd : Option (List ℕ)) → HasRooms first best fate crowd → length new ≡ length best → HasRooms first new fate crowd
rooms-kept first best new fate crowd h same = record { for_best = same ∙ h.for_best; for_crowd = h.for_crowd }

-- a node keeps its rooms when its best prices are replaced and its crowd proof filled, by as many others
pub rooms-filled : (first best new prices : List ℕ) (fate : Fate) (crowd filled : Option (List ℕ)) → HasRooms first best fate crowd → length new ≡ length best
    → filled ≡ Some prices → length prices ≡ length first → HasRooms first new fate filled
rooms-filled first best new prices fate crowd filled h same is fits = record {
  for_best = same ∙ h.for_best;
  for_crowd = λ undone. subst (λ (o : Option (List ℕ)). IsSomeAnd o (λ ps. length ps ≡ length first)) (sym is) fits;
}

-- A call that completes a version

-- where a bound is missing only while demands are left, a bound that is there leaves no demand
pub none-left : (bound : ℤ) (left : ℕ) → (Some bound ≡ None) ↔ (0 < left) → left ≡ 0
none-left bound zero h = refl
none-left bound (suc left) h = absurd (let bad : Some bound ≡ None = h.1 (omega arith) in cc)

module _ (p : Parts) (cuts : List Cut) (old : Node) (round : Round) (is : old.round ≡ Some round) (inst : IsInstance p) (ready : MayComplete p cuts old) where
  ready-sound : IsSoundRound p cuts (restriction_of old) round
  ready-sound = subst (λ (o : Option Round). IfSome o (λ r. IsSoundRound p cuts (restriction_of old) r)) is ready.is_sound

  -- each length of the round of a node that may complete is at most the price limit times a path's most links
  pub ready-short : AreShort p (lengths_of round)
  ready-short = lengths-short p cuts (restriction_of old) round inst ready-sound

  -- the prices of the round of a node that may complete are as many as its first prices
  pub ready-fits : (prices : List ℕ) → prices ≡ round.prices → length prices ≡ length old.first_prices
  ready-fits prices same = ap length same ∙ (ready-sound.prices.count ∙ sym ready.price_count)

  -- a node that may complete takes its complete round with the better bound and the crowd proof it shows
  pub completed-with : (ranges : List LoadRange) (bound : ℤ) (prices : List ℕ) (best : Option Best) (crowd : Option (List ℕ)) → ranges ≡ ranges_of p old → prices ≡ round.prices → left_of round ≡ 0
      → IsRoundBound p cuts ranges round.prices (lengths_of round) bound → best ≡ Some (better_of old.best bound prices) → TakesCrowd p ranges round old.crowd crowd
      → TakesRound p cuts old round (record old { best = best; completed = old.completed + 1; crowd = crowd })
  completed-with ranges bound prices best crowd mine same none all is_best takes =
      let better : best ≡ Some (better_of old.best bound round.prices) = is_best ∙ ap (λ (ps : List ℕ). Some (better_of old.best bound ps)) same in
      completes p cuts old round is inst ready-sound bound crowd (record old { best = best; completed = old.completed + 1; crowd = crowd }) none
      (subst (λ (rs : List LoadRange). IsRoundBound p cuts rs round.prices (lengths_of round) bound) mine all)
      (subst (λ (rs : List LoadRange). TakesCrowd p rs round old.crowd crowd) mine takes)
      (ap₂ (λ (b : Option Best) (n : ℕ). let x : Node = record old { best = b; completed = n; crowd = crowd } in x) better (add-one old.completed))

-- the round is that of the node before
pub TakesRound-now : (p : Parts) (cuts : List Cut) (old now : Node) (round : Round) (new : Node) → old ≡ now → old.round ≡ Some round → TakesRound p cuts old round new → IfSome now.round (λ r. TakesRound p cuts now r new)
TakesRound-now p cuts old now round new same is takes =
    subst (λ (x : Node). IfSome x.round (λ r. TakesRound p cuts x r new)) same (subst (λ (o : Option Round). IfSome o (λ r. TakesRound p cuts old r new)) (sym is) takes)

-- What a node that takes a round keeps

-- a node that has taken a round has this round
pub TakesRound-round : (p : Parts) (cuts : List Cut) (old : Node) (round : Round) (new : Node) → TakesRound p cuts old round new → new.round ≡ Some round
TakesRound-round p cuts old round new takes = elim takes [ inl e ↦ ap (λ (x : Node). x.round) e.becomes | inr e ↦ ap (λ (x : Node). x.round) e.becomes ]

-- a node that takes a round keeps its limits
pub TakesRound-limits : (p : Parts) (cuts : List Cut) (old : Node) (round : Round) (new : Node) → TakesRound p cuts old round new → new.limits ≡ old.limits
TakesRound-limits p cuts old round new takes = elim takes [ inl e ↦ ap (λ (x : Node). x.limits) e.becomes | inr e ↦ ap (λ (x : Node). x.limits) e.becomes ]

-- a node that takes a round keeps its fate
pub TakesRound-fate : (p : Parts) (cuts : List Cut) (old : Node) (round : Round) (new : Node) → TakesRound p cuts old round new → new.fate ≡ old.fate
TakesRound-fate p cuts old round new takes = elim takes [ inl e ↦ ap (λ (x : Node). x.fate) e.becomes | inr e ↦ ap (λ (x : Node). x.fate) e.becomes ]

-- a node that has another round takes one as the node before does
TakesRound-over : (p : Parts) (cuts : List Cut) (old : Node) (o : Option Round) (round : Round) (new : Node) → TakesRound p cuts (record old { round = o }) round new → TakesRound p cuts old round new
TakesRound-over p cuts old o round new takes = elim takes [
  | inl e ↦ inl (record { complete = e.complete; bound = e.bound; crowd = e.crowd; is_bound = e.is_bound; is_crowd = e.is_crowd; becomes = e.becomes })
  | inr e ↦ inr (record { incomplete = e.incomplete; becomes = e.becomes })
]

-- the node with its round, completed, has taken the round
pub TakesRound-from : (p : Parts) (cuts : List Cut) (old mid new : Node) (round : Round) → mid ≡ record old { round = Some round }
    → IfSome mid.round (λ r. TakesRound p cuts mid r new) → TakesRound p cuts old round new
TakesRound-from p cuts old mid new round is takes =
    let over : Node = record old { round = Some round } in
    let taken : TakesRound p cuts over round new = subst (λ (x : Node). IfSome x.round (λ r. TakesRound p cuts x r new)) is takes in
    TakesRound-over p cuts old (Some round) round new taken

-- Offers of a path

module _ (p : Parts) (cuts : List Cut) (old : Node) (demand : ℕ) (found : Found) (h : IsSoundNode p cuts old) where
  abbrev MayPut : Round → Type 0
  MayPut round = (slice_get round.found demand ≡ Some None) × IsLeastPath p round.prices demand (restriction_of old) found.path found.price

  undone-sound : (round : Round) → old.round ≡ Some round → (old.fate ≡ Undone) × IsSoundRound p cuts (restriction_of old) round
  undone-sound round is = subst (λ (o : Option Round). IfSome o (λ r. (old.fate ≡ Undone) × IsSoundRound p cuts (restriction_of old) r)) is h.round

  -- the node with the path may become complete
  pub put-ready : (mid : Node) → IsSomeAnd old.round MayPut → IfSome old.round (λ r. mid ≡ record old { round = Some (with_found r demand found) }) → MayComplete p cuts mid
  put-ready mid may is = by_cases old.round refl may is
    where
      by_cases : (o : Option Round) → old.round ≡ o → IsSomeAnd o MayPut → IfSome o (λ r. mid ≡ record old { round = Some (with_found r demand found) }) → MayComplete p cuts mid
      by_cases None at may is = absurd may
      by_cases (Some round) at may is =
          let facts = undone-sound round at in
          subst (MayComplete p cuts) (sym is) (record {
            undone = facts.0;
            price_count = h.first_prices.count;
            ranges = h.ranges;
            version_count = h.version_count;
            is_sound = with_found-sound p cuts (restriction_of old) round demand found facts.1 may.1;
          })

  -- where a node takes the round with a path put into it, the node before the path takes that round
  pub put-takes : (mid new : Node) → IfSome old.round (λ r. mid ≡ record old { round = Some (with_found r demand found) })
      → IfSome mid.round (λ r. TakesRound p cuts mid r new) → IfSome old.round (λ r. TakesRound p cuts old (with_found r demand found) new)
  put-takes mid new is takes = by_cases old.round is
    where
      by_cases : (o : Option Round) → IfSome o (λ r. mid ≡ record old { round = Some (with_found r demand found) }) → IfSome o (λ r. TakesRound p cuts old (with_found r demand found) new)
      by_cases None is = tt
      by_cases (Some round) is = TakesRound-from p cuts old mid new (with_found round demand found) is takes

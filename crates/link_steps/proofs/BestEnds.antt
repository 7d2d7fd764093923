-- The best ends of steps, as they are found.
use Rattle.std.proofs.Common.{◌≡◌, ℕ, zero, suc, ◌+◌, ◌-◌, ◌*◌, ◌<◌, ◌≤◌, ◌⊎◌, inl, inr, min, List, [], ◌∷◌, ◌++◌, take, length, get_or, refl, subst, ap, ◌∙◌, arith}
use Rattle.std.proofs.Math.Nat.{le-div_iff_mul-le}
use Rattle.std.proofs.Math.Seq.{get_or-append_seam}
use Rattle.std.proofs.lemmas.List.{length-append, get_or_append_left, length-take-le, get_or-take, get_or_default}
use Rattle.plan_base.specs.declared.limits.TheConstants.{MODULE_COST_BOUND}
use Rattle.link_steps.specs.declared.limits.TheConstants.{MAX_STEPS}
use Rattle.link_steps.specs.declared.step.Step.{Step}
use Rattle.link_steps.specs.declared.ends.End.{End}
use Rattle.link_steps.specs.Steps.{step_at, AreInOrder, end_at, no_end, end_in, turn, AreCorners, Outdoes, IsBestSoFar, AreAhead, AreBestEnds, IsFrom, IsRestOf, IsBestEnd}
use Rattle.link_steps.proofs.Order.{either_way, before_or_last}

Outdoes-self : (slope : ℕ) (a : End) → Outdoes slope a a
Outdoes-self slope a = record { no_more = omega arith; less = λ farther. absurd (omega arith) }

Outdoes-trans : (slope : ℕ) (a b c : End) → Outdoes slope a b → Outdoes slope b c → Outdoes slope a c
Outdoes-trans slope a b c h k =
    let first = h.no_more in
    let second = k.no_more in
    record {
      no_more = omega arith;
      less = λ farther.
          elim (either_way b.load c.load) [
            | inl le ↦ (let strict = h.less (omega arith) in omega arith)
            | inr lt ↦ (let strict = k.less lt in omega arith)
          ];
    }

-- a better end is taken
pub IsBestSoFar-taken : (ends : List End) (slope n : ℕ) (best : End) → n < length ends → IsBestSoFar ends slope n best
    → 1000 * (end_in ends n).cost + slope * best.load < 1000 * best.cost + slope * (end_in ends n).load → IsBestSoFar ends slope (n + 1) (end_in ends n)
IsBestSoFar-taken ends slope n best within so_far better =
    let over_best : Outdoes slope (end_in ends n) best = record { no_more = omega arith; less = λ _. better } in
    record {
      place = n;
      within = within;
      before = omega arith;
      is_end = refl;
      outdoes = λ i below.
          elim (before_or_last i n below) [
            | inl old ↦ Outdoes-trans slope (end_in ends n) best (end_in ends i) over_best (so_far.outdoes i old)
            | inr new ↦ rw new (Outdoes-self slope (end_in ends n))
          ];
    }

difference : (small large times : ℕ) → small ≤ large → times * small + times * (large - small) ≡ times * large
difference small large times le = let whole : small + (large - small) ≡ large = omega arith in omega (arith, ap (λ (n : ℕ). times * n) whole)

-- Up to the slope of a later end the one before is as good, and above it the later one is better.

-- parts of a difference, where a number of times it is at most another difference
times-within : (slope small large cheap dear : ℕ) → small ≤ large → cheap ≤ dear → slope * (large - small) ≤ 1000 * (dear - cheap) → 1000 * cheap + slope * large ≤ 1000 * dear + slope * small
times-within slope small large cheap dear le less within = omega (arith, difference small large slope le)

times-past : (slope small large cheap dear : ℕ) → small ≤ large → cheap ≤ dear → 1000 * (dear - cheap) < slope * (large - small) → 1000 * dear + slope * small < 1000 * cheap + slope * large
times-past slope small large cheap dear le less past = omega (arith, difference small large slope le)

turn-flat : (slope : ℕ) (end later : End) → end.load < later.load → end.cost < later.cost → slope ≤ turn end later → Outdoes slope end later
turn-flat slope end later farther dearer flat =
    record {
      no_more = times-within slope end.load later.load end.cost later.cost (omega arith) (omega arith) ((le-div_iff_mul-le (let some : 0 < later.load - end.load = omega arith in some)).0 flat);
      less = λ nearer. absurd (omega arith);
    }

turn-steep : (slope : ℕ) (end later : End) → end.load < later.load → end.cost < later.cost → turn end later < slope → 1000 * later.cost + slope * end.load < 1000 * end.cost + slope * later.load
turn-steep slope end later farther dearer steep =
    elim (either_way (slope * (later.load - end.load)) (1000 * (later.cost - end.cost))) [
      | inl within ↦ (let flat : slope ≤ turn end later = (le-div_iff_mul-le (let some : 0 < later.load - end.load = omega arith in some)).1 within in absurd (omega arith))
      | inr past ↦ times-past slope end.load later.load end.cost later.cost (omega arith) (omega arith) past
    ]

turn-over : (slope : ℕ) (end later : End) → end.load < later.load → end.cost < later.cost → turn end later < slope → Outdoes slope later end
turn-over slope end later farther dearer steep =
    (let better = turn-steep slope end later farther dearer steep in record { no_more = omega arith; less = λ _. better })

-- the next best end is taken
pub IsBestSoFar-next : (ends : List End) (slope n : ℕ) (best : End) → AreCorners ends → 0 < n → n < length ends → IsBestSoFar ends slope n best → best ≡ end_in ends (n - 1) → (end_in ends n).from < slope → IsBestSoFar ends slope (n + 1) (end_in ends n)
IsBestSoFar-next ends slope n best corners some within so_far is steep =
    let same : n - 1 + 1 ≡ n = omega arith in
    let from : (end_in ends n).from ≡ turn (end_in ends (n - 1)) (end_in ends n) = subst (λ (k : ℕ). (end_in ends k).from ≡ turn (end_in ends (n - 1)) (end_in ends k)) same (corners.turned (n - 1) (omega arith)) in
    let better = turn-steep slope (end_in ends (n - 1)) (end_in ends n) (corners.rising.farther (n - 1) n (omega arith) within) (corners.rising.dearer (n - 1) n (omega arith) within) (omega (arith, from)) in
    IsBestSoFar-taken ends slope n best within so_far (rw is better)

-- from an end whose slope is not reached on, none is better
none-better : (ends : List End) (slope n : ℕ) (best : End) → AreCorners ends → 0 < n → n < length ends → IsBestSoFar ends slope n best → slope ≤ (end_in ends n).from → (i : ℕ) → i < length ends → Outdoes slope best (end_in ends i)
none-better ends slope n best corners some within so_far flat zero inside = so_far.outdoes 0 some
none-better ends slope n best corners some within so_far flat (suc i) inside =
    elim (either_way n (suc i)) [
      | inr before ↦ so_far.outdoes (suc i) before
      | inl behind ↦
          (let from : (end_in ends (suc i)).from ≡ turn (end_in ends i) (end_in ends (suc i)) = subst (λ (k : ℕ). (end_in ends k).from ≡ turn (end_in ends i) (end_in ends k)) (let same : i + 1 ≡ suc i = omega arith in same) (corners.turned i (omega arith)) in
          let enough : slope ≤ (end_in ends (suc i)).from = elim (either_way (suc i) n) [ inl last ↦ (let same : suc i ≡ n = omega arith in rw same flat) | inr past ↦ omega (arith, flat, corners.steeper n (suc i) some past inside) ] in
          Outdoes-trans slope best (end_in ends i) (end_in ends (suc i)) (none-better ends slope n best corners some within so_far flat i (omega arith))
          (turn-flat slope (end_in ends i) (end_in ends (suc i)) (corners.rising.farther i (suc i) (omega arith) inside) (corners.rising.dearer i (suc i) (omega arith) inside) (omega (arith, from, enough))))
    ]

-- so the best one of those before is the best of all
pub IsBestSoFar-all : (ends : List End) (slope n : ℕ) (best : End) → AreCorners ends → 0 < n → n < length ends → IsBestSoFar ends slope n best → slope ≤ (end_in ends n).from → IsBestSoFar ends slope (length ends) best
IsBestSoFar-all ends slope n best corners some within so_far flat =
    record { place = so_far.place; within = so_far.within; before = omega (arith, so_far.within); is_end = so_far.is_end; outdoes = none-better ends slope n best corners some within so_far flat }

-- ends, and one more behind them
abbrev with_next : List End → End → List End
with_next ends next = ends ++ next ∷ []

length-next : (ends : List End) (next : End) → length (with_next ends next) ≡ length ends + 1
length-next ends next = length-append ends (next ∷ [])

end-old : (ends : List End) (next : End) (i : ℕ) → i < length ends → end_in (with_next ends next) i ≡ end_in ends i
end-old ends next i within = get_or_append_left ends (next ∷ []) no_end i within

end-next : (ends : List End) (next : End) (i : ℕ) → i ≡ length ends → end_in (with_next ends next) i ≡ next
end-next ends next i is = ap (end_in (with_next ends next)) is ∙ get_or-append_seam ends next [] no_end

old_or_next : (ends : List End) (next : End) (i : ℕ) → i < length (with_next ends next) → (i < length ends) ⊎ (i ≡ length ends)
old_or_next ends next i within = before_or_last i (length ends) (omega (arith, length-next ends next))

-- nothing is dropped yet
pub IsRestOf-all : (ends : List End) (next : End) → IsRestOf ends next ends
IsRestOf-all ends next =
    record {
      within = omega arith;
      front = λ i within. refl;
      ahead = λ slope i within. inl (record { place = i; within = within; outdoes = Outdoes-self slope (end_in ends i) });
    }

-- As the last ends are dropped.
module _ (old ends : List End) (next : End) (corners : AreCorners old) (farther : (i : ℕ) → i < length old → (end_in old i).load < next.load) (dearer : (i : ℕ) → i < length old → (end_in old i).cost < next.cost) (rest : IsRestOf old next ends) where
  -- the next end has a greater load than each end that is left
  pub rest-farther : (i : ℕ) → i < length ends → (end_in ends i).load < next.load
  rest-farther i below = rw (rest.front i below) (farther i (omega (arith, rest.within, below)))

  -- the next end costs more than each end that is left
  pub rest-dearer : (i : ℕ) → i < length ends → (end_in ends i).cost < next.cost
  rest-dearer i below = rw (rest.front i below) (dearer i (omega (arith, rest.within, below)))

  -- the slope of the next end, where that of the last one is less
  pub IsFrom-last : (last from : ℕ) → last + 1 ≡ length ends → from ≡ turn (end_in ends last) next → (end_in ends last).from < from → IsFrom ends next from
  IsFrom-last last from is from_is less =
      record {
        turned = λ i at. (let same : i ≡ last = omega arith in rw same from_is);
        steeper = λ i some below.
            elim (either_way last i) [
              | inl at ↦ (let same : i ≡ last = omega arith in rw same less)
              | inr before ↦ (let rising : (end_in ends i).from < (end_in ends last).from = rw (rest.front i below, rest.front last (omega (arith, is))) (corners.steeper i last some before (omega (arith, is, rest.within))) in omega (arith, rising, less))
            ];
      }

  -- that of a second end
  pub IsFrom-second : (from : ℕ) → length ends ≡ 1 → from ≡ turn (end_in ends 0) next → IsFrom ends next from
  IsFrom-second from one from_is = record { turned = λ i at. (let same : i ≡ 0 = omega arith in rw same from_is); steeper = λ i some below. absurd (omega arith) }

  -- where the next end is better than the last one at no greater slope than this one than the one before, it is dropped
  pub IsRestOf-drop : (last : ℕ) → last + 1 ≡ length ends → 0 < last → turn (end_in ends last) next ≤ (end_in ends last).from → IsRestOf old next (take last ends)
  IsRestOf-drop last is positive flat =
      let long : length (take last ends) ≡ last = length-take-le last ends (omega arith) in
      let front : (i : ℕ) → i < last → end_in (take last ends) i ≡ end_in ends i = λ i below. get_or-take last ends i no_end below in
      let same : last - 1 + 1 ≡ last = omega arith in
      let inside : last < length old = omega (arith, is, rest.within) in
      let before_is = rest.front (last - 1) (omega (arith, is)) in
      let last_is = rest.front last (omega (arith, is)) in
      let from : (end_in ends last).from ≡ turn (end_in ends (last - 1)) (end_in ends last) = rw (before_is, last_is) (subst (λ (k : ℕ). (end_in old k).from ≡ turn (end_in old (last - 1)) (end_in old k)) same (corners.turned (last - 1) (omega (arith, inside)))) in
      let loads : (end_in ends (last - 1)).load < (end_in ends last).load = rw (before_is, last_is) (corners.rising.farther (last - 1) last (omega arith) inside) in
      let costs : (end_in ends (last - 1)).cost < (end_in ends last).cost = rw (before_is, last_is) (corners.rising.dearer (last - 1) last (omega arith) inside) in
      let over_last : (slope : ℕ) → Outdoes slope (end_in ends (last - 1)) (end_in ends last) ⊎ Outdoes slope next (end_in ends last) = λ slope.
      elim (either_way slope (end_in ends last).from) [
        | inl below ↦ inl (turn-flat slope (end_in ends (last - 1)) (end_in ends last) loads costs (omega (arith, from, below)))
        | inr above ↦ inr (turn-over slope (end_in ends last) next (rest-farther last (omega (arith, is))) (rest-dearer last (omega (arith, is))) (omega (arith, flat, above)))
      ] in
      let kept : (slope i : ℕ) (end : End) → i < last → Outdoes slope (end_in ends i) end → AreAhead (take last ends) slope end = λ slope i end below outdoes. record { place = i; within = omega (arith, long); outdoes = rw (front i below) outdoes } in
      record {
        within = omega (arith, long, is, rest.within);
        front = λ i below. front i (omega (arith, long)) ∙ rest.front i (omega (arith, long, is));
        ahead = λ slope i within.
            elim (rest.ahead slope i within) [
              | inr by_next ↦ inr by_next
              | inl found ↦
                  elim (either_way last found.place) [
                    | inr before ↦ inl (kept slope found.place (end_in old i) before found.outdoes)
                    | inl at_last ↦
                        (let at : found.place ≡ last = omega (arith, found.within, is) in
                        let by_last = rw at at found.outdoes in
                        elim (over_last slope) [
                          | inl over ↦ inl (kept slope (last - 1) (end_in old i) (omega arith) (Outdoes-trans slope (end_in ends (last - 1)) (end_in ends last) (end_in old i) over by_last))
                          | inr over ↦ inr (Outdoes-trans slope next (end_in ends last) (end_in old i) over by_last)
                        ])
                  ]
            ];
      }

  -- the same, of ends that are known by equations
  module _ (last from : ℕ) (item again : End) (is : last + 1 ≡ length ends) (item_is : item ≡ get_or ends last item) (again_is : again ≡ get_or ends last again) (from_is : from ≡ turn item next) where
    item-at : item ≡ end_in ends last
    item-at = item_is ∙ get_or_default ends last item no_end (omega (arith, is))

    again-at : again ≡ end_in ends last
    again-at = again_is ∙ get_or_default ends last again no_end (omega (arith, is))

    from-at : from ≡ turn (end_in ends last) next
    from-at = from_is ∙ ap (λ (e : End). turn e next) item-at

    -- the slope of the next end, where that of the last end, as it is read, is less
    pub IsFrom-item : again.from < from → IsFrom ends next from
    IsFrom-item less = IsFrom-last last from is from-at (subst (λ (e : End). e.from < from) again-at less)

    -- the last end, as it is read, is dropped where the slope from it to the next end is at most its own
    pub IsRestOf-drop_item : 0 < last → from ≤ again.from → IsRestOf old next (take last ends)
    IsRestOf-drop_item positive flat = IsRestOf-drop last is positive (subst (λ (k : ℕ). k ≤ (end_in ends last).from) from-at (subst (λ (e : End). from ≤ e.from) again-at flat))

-- the end of the next step is past those before
module _ (steps : List Step) (top n : ℕ) (ends : List End) (next : End)
    (in_order : AreInOrder steps) (low : (i : ℕ) → i + 1 < length steps → (step_at steps i).reach < top) (within : n < length steps)
    (best : AreBestEnds steps top n ends) (next_cost : next.cost ≡ (step_at steps n).cost) (next_load : next.load ≡ min (step_at steps n).reach top) where
  -- the end of the next step has a greater load than each best end of the steps before it
  pub end-farther : (i : ℕ) → i < length ends → (end_in ends i).load < next.load
  end-farther i below =
      let each = best.each i below in
      let earlier = each.within in
      omega (arith, next_load, each.load, low each.place (omega arith), in_order.rising each.place n earlier within)

  -- the end of the next step costs more than each best end of the steps before it
  pub end-dearer : (i : ℕ) → i < length ends → (end_in ends i).cost < next.cost
  end-dearer i below =
      let each = best.each i below in
      omega (arith, next_cost, each.cost, in_order.dearer each.place n each.within within)

  -- where there are not too many steps, the end of the next step costs little
  pub end-cheap : length steps ≤ MAX_STEPS → next.cost ≤ MAX_STEPS * MODULE_COST_BOUND
  end-cheap few = omega (arith, next_cost, in_order.cheap n within, within, few)

  module _ (rest : List End) (from : ℕ) (is_rest : IsRestOf ends next rest) (is_from : IsFrom rest next from) where
    abbrev put : End
    put = record { cost = next.cost; load = next.load; from = from }

    old-is : (i : ℕ) → i < length rest → end_in (with_next rest put) i ≡ end_in ends i
    old-is i old = end-old rest put i old ∙ is_rest.front i old

    corners-next : AreCorners (with_next rest put)
    corners-next =
        let long = length-next rest put in
        let bound = is_rest.within in
        record {
          rising = record {
            farther = λ i j lt inside.
                elim (old_or_next rest put j inside) [
                  | inl old ↦ rw (old-is i (omega arith), old-is j old) (best.corners.rising.farther i j lt (omega arith))
                  | inr new ↦ rw (old-is i (omega arith), end-next rest put j new) (end-farther i (omega arith))
                ];
            dearer = λ i j lt inside.
                elim (old_or_next rest put j inside) [
                  | inl old ↦ rw (old-is i (omega arith), old-is j old) (best.corners.rising.dearer i j lt (omega arith))
                  | inr new ↦ rw (old-is i (omega arith), end-next rest put j new) (end-dearer i (omega arith))
                ];
          };
          turned = λ i inside.
              elim (old_or_next rest put (i + 1) inside) [
                | inl old ↦ rw (old-is i (omega arith), old-is (i + 1) old) (best.corners.turned i (omega arith))
                | inr new ↦ rw (end-old rest put i (omega arith), end-next rest put (i + 1) new) (is_from.turned i new)
              ];
          steeper = λ i j some lt inside.
              elim (old_or_next rest put j inside) [
                | inl old ↦ rw (old-is i (omega arith), old-is j old) (best.corners.steeper i j some lt (omega arith))
                | inr new ↦ rw (end-old rest put i (omega arith), end-next rest put j new) (is_from.steeper i some (omega arith))
              ];
        }

    -- the next end behind the rest of those before
    pub AreBestEnds-next : AreBestEnds steps top (n + 1) (with_next rest put)
    AreBestEnds-next =
        let long = length-next rest put in
        let bound = is_rest.within in
        let by_next : (slope : ℕ) (end : End) → Outdoes slope next end → AreAhead (with_next rest put) slope end = λ slope end outdoes.
        record { place = length rest; within = omega arith; outdoes = rw (end-next rest put (length rest) refl) (record { no_more = outdoes.no_more; less = outdoes.less }) } in
        let same_next : (slope : ℕ) → Outdoes slope next (record { cost = next.cost; load = next.load; from = 0 }) = λ slope. record { no_more = omega arith; less = λ nearer. absurd (omega arith) } in
        record {
          corners = corners-next;
          each = λ i inside.
              elim (old_or_next rest put i inside) [
                | inl old ↦
                    (let each = best.each i (omega arith) in
                    rw (old-is i old) (record { place = each.place; within = omega (arith, each.within); cost = each.cost; load = each.load }))
                | inr new ↦ rw (end-next rest put i new) (record { place = n; within = omega arith; cost = next_cost; load = next_load })
              ];
          ahead = λ slope k below.
              elim (before_or_last k n below) [
                | inl old ↦
                    (let first = best.ahead slope k old in
                    elim (is_rest.ahead slope first.place first.within) [
                      | inl second ↦ record { place = second.place; within = omega (arith, second.within); outdoes = rw (end-old rest put second.place second.within) (Outdoes-trans slope _ (end_in ends first.place) (end_at top (step_at steps k)) second.outdoes first.outdoes) }
                      | inr second ↦ by_next slope (end_at top (step_at steps k)) (Outdoes-trans slope next (end_in ends first.place) (end_at top (step_at steps k)) second first.outdoes)
                    ])
                | inr new ↦ by_next slope (end_at top (step_at steps k)) (rw (new, ← next_cost, ← next_load) (same_next slope))
              ];
        }

-- before the first step, an empty list has the best ends
pub AreBestEnds-none : (steps : List Step) (top : ℕ) → AreBestEnds steps top 0 []
AreBestEnds-none steps top =
    record {
      corners = record {
        rising = record { farther = λ i j lt within. absurd (omega arith); dearer = λ i j lt within. absurd (omega arith) };
        turned = λ i within. absurd (omega arith);
        steeper = λ i j some lt within. absurd (omega arith);
      };
      each = λ i within. absurd (omega arith);
      ahead = λ slope k below. absurd (omega arith);
    }

-- the best of the best ends is the best of all
pub IsBestEnd-ends : (steps : List Step) (top slope : ℕ) (ends : List End) (best : End) → AreBestEnds steps top (length steps) ends → IsBestSoFar ends slope (length ends) best → IsBestEnd steps top slope best
IsBestEnd-ends steps top slope ends best are is =
    let each = are.each is.place is.within in
    record {
      is_end_of = record { place = each.place; within = each.within; cost = ap (λ (e : End). e.cost) is.is_end ∙ each.cost; load = ap (λ (e : End). e.load) is.is_end ∙ each.load };
      outdoes = λ k below.
          (let ahead = are.ahead slope k below in
          Outdoes-trans slope best (end_in ends ahead.place) (end_at top (step_at steps k)) (is.outdoes ahead.place ahead.within) ahead.outdoes);
    }

-- One step at a leaf: it comes closer to its end, or is closed or divided.
use Rattle.std.proofs.Common.{◌≡◌, ℕ, zero, suc, ◌+◌, ◌-◌, ◌*◌, ◌<◌, ◌≤◌, List, inl, inr, Bool, true, false, length, Option, Some, None, slice_get, refl, sym, ap, subst, ◌∙◌, arith, add-one}
use Rattle.std.specs.Prelude.{Result, Ok, Err, nat_le, nat_lt, is_some, ◌||◌, IsSome, IsSomeAnd}
use Rattle.std.proofs.lemmas.Bool.{eq-eqb}
use Rattle.std.proofs.Math.Nat.{mul-le-mul}
use Rattle.std.proofs.lemmas.List.{length-replicate}
use Rattle.std.proofs.lemmas.List.Sums.{sum_by-le}
use Rattle.std.proofs.lemmas.Option.{slice_get_within}
use Rattle.plan_base.specs.declared.ids.DemandId.{DemandId}
use Rattle.plan_base.specs.declared.path.Design.{Design}
use Rattle.plan_base.specs.declared.design_fault.DesignFault.{DesignFault}
use Rattle.plan_base.proofs.Bools.{not-true, or-both_false}
use Rattle.plan_base.proofs.FirstFault.{none-or_else, none-when}
use Rattle.path_pricing.specs.declared.priced.Priced.{Priced}
use Rattle.search_machine.specs.declared.limits.TheConstants.{MAX_ROUNDS, MAX_VERSIONS}
use Rattle.search_machine.specs.declared.answers.Opened.{Opened}
use Rattle.search_machine.specs.declared.answers.RoundFault.{RoundFault}
use Rattle.search_machine.specs.declared.answers.Offer.{Offer}
use Rattle.search_machine.specs.declared.answers.Offered.{Offered}
use Rattle.search_machine.specs.declared.answers.Offered.TheVariants as offered
use Rattle.search_machine.specs.declared.answers.Better.{Better}
use Rattle.search_machine.specs.declared.answers.Better.TheVariants as better
use Rattle.branch_tree.specs.declared.node.Fate.{Fate}
use Rattle.branch_tree.specs.declared.node.Fate.TheVariants.{Undone}
use Rattle.search_machine.specs.declared.tree.HeldCut.{HeldCut}
use Rattle.std.proofs.lemmas.Bool.Decides.{nat_tests}
use Rattle.plan_base.specs.declared.ids.BranchId.{BranchId}
use Rattle.plan_base.specs.declared.parts.Parts.{Parts}
use Rattle.proof_tree.specs.declared.cuts.Cut.{Cut}
use Rattle.search_machine.specs.declared.answers.Closing.{Closing}
use Rattle.search_machine.specs.declared.answers.Examined.{Examined}
use Rattle.search_machine.specs.declared.answers.Examined.TheVariants as examined
use Rattle.search_machine.specs.declared.answers.ExamineFault.{ExamineFault}
use Rattle.search_machine.specs.declared.answers.ExamineFault.TheVariants as examine_fault
use Rattle.search_machine.specs.declared.tree.Found.{Found}
use Rattle.search_machine.specs.Settling.{Settles}
use Rattle.search_machine.specs.Publishing.{Publishes}
use Rattle.search_machine.specs.Closing.{CloseStep}
use Rattle.search_machine.specs.Readiness.{examine_refusal}
use Rattle.search_machine.specs.Examining.{ExamineStep}
use Rattle.search_machine.proofs.Lists.{sum_by-set_at}
use Rattle.search_machine.proofs.Leads.{LeadsTo-one}
use Rattle.search_machine.specs.State.{Round, Node, State, gap_of, left_of, active_count, state_by, state_in, round_of}
use Rattle.search_machine.specs.Changes.{TakesRound, version_in, is_version, has_cut, stale_fault}
use Rattle.search_machine.specs.Opening.{open_fault, empty_round, Opens, OpenStep}
use Rattle.search_machine.specs.Offering.{is_priced, unfit_in, offer_fault, TakesCut, with_found, Accepts, OfferStep}
use Rattle.search_machine.specs.Bettering.{BetterStep}
use Rattle.search_machine.specs.Machine.{Opening, Offering, Closing_of, Examining, Bettering, to_opening, to_offering, to_closing, to_examining, to_bettering, IsReachable}
use Rattle.search_machine.specs.Tasks.{IsToAdvance, LeadsTo}
use Rattle.search_machine.proofs.Frames.{one_at}
use Rattle.search_machine.proofs.Lists.{slice_get-set_same}
use Rattle.search_machine.proofs.Leads.{LeadsTo-stays}
use Rattle.search_machine.proofs.Replacing.{node_at}
use Rattle.search_machine.proofs.Runs.{IsReachable-sound}
use Rattle.search_nodes.proofs.Completing.{TakesRound-fate}
use Rattle.search_view.specs.Work.{is_next_in, is_next}
use Rattle.pool_core.specs.Work.{IsGap, cut_left, unsettled_left, versions_left, steps_by, steps_in, steps_left, IsCloser, KeepsNodes}
use Rattle.search_view.proofs.TaskLaws.{HasRound, round-undone, round_of-has, spent-false}
use Rattle.pool_core.proofs.TaskLaws.{not_priced-at}
use Rattle.search_view.proofs.Reading.{sound-round}

-- what becomes of a node that takes a round
takes-round : (p : Parts) (cuts : List Cut) (old : Node) (round : Round) (new : Node) → TakesRound p cuts old round new → new.round ≡ Some round
takes-round p cuts old round new h = elim h [ inl c ↦ ap (λ (x : Node). x.round) c.becomes | inr g ↦ ap (λ (x : Node). x.round) g.becomes ]

takes-cut : (p : Parts) (cuts : List Cut) (old : Node) (round : Round) (new : Node) → TakesRound p cuts old round new → new.cut ≡ old.cut
takes-cut p cuts old round new h = elim h [ inl c ↦ ap (λ (x : Node). x.cut) c.becomes | inr g ↦ ap (λ (x : Node). x.cut) g.becomes ]

takes-settled : (p : Parts) (cuts : List Cut) (old : Node) (round : Round) (new : Node) → TakesRound p cuts old round new → new.settled ≡ old.settled
takes-settled p cuts old round new h = elim h [ inl c ↦ ap (λ (x : Node). x.settled) c.becomes | inr g ↦ ap (λ (x : Node). x.settled) g.becomes ]

one_less : (round : Round) (k : ℕ) (found : Found) → slice_get round.found k ≡ Some None → left_of (with_found round k found) + 1 ≡ left_of round
one_less round k found is =
    let e : left_of (with_found round k found) + 1 ≡ left_of round + 0 = sum_by-set_at gap_of round.found k None (Some found) is in omega arith

not_above : (n k : ℕ) → k < n → nat_le n k ≡ false
not_above n k h = grind (arith, nat_tests)

-- an examination that is not refused raises the count by one, or memory is out
pub examined-one : (s t : State) (id : BranchId) (answer : Examined) → ExamineStep s id (Ok answer) t → t.examined ≡ s.examined + 1
examined-one s t id examined.Cut e = ap (λ (x : State). x.examined) e.becomes ∙ sym (add-one s.examined)
examined-one s t id (examined.Divided left right) e = ap (λ (x : State). x.examined) e.becomes ∙ sym (add-one s.examined)
examined-one s t id (examined.Far demand) e = ap (λ (x : State). x.examined) e.becomes ∙ sym (add-one s.examined)
examined-one s t id examined.Overfull e = ap (λ (x : State). x.examined) e.becomes ∙ sym (add-one s.examined)
examined-one s t id examined.Routed e = ap (λ (x : State). x.examined) e.becomes ∙ sym (add-one s.examined)

-- an examination, however it is answered, is an event that leads from the one state to the other
pub examined-leads : (s t : State) (id : BranchId) (answer : Result Examined ExamineFault) → ExamineStep s id answer t → LeadsTo s t
examined-leads s t id answer e = LeadsTo-one s t (Examining id) (to_examining answer) e

-- where no refusal is found, an examination fails only for want of memory
pub never-refused : (s t : State) (id : BranchId) (fault : ExamineFault) → examine_refusal s id ≡ None → ExamineStep s id (Err fault) t → fault ≡ examine_fault.OutOfMemory
never-refused s t id examine_fault.OutOfMemory none e = refl
never-refused s t id (examine_fault.Spent x) none e = absurd (let bad : ◌≡◌ {A = Option ExamineFault} None (Some (examine_fault.Spent x)) = sym none ∙ e.0 in cc)
never-refused s t id (examine_fault.NotOpen x) none e = absurd (let bad : ◌≡◌ {A = Option ExamineFault} None (Some (examine_fault.NotOpen x)) = sym none ∙ e.0 in cc)
never-refused s t id examine_fault.Unpriced none e = absurd (let bad : ◌≡◌ {A = Option ExamineFault} None (Some examine_fault.Unpriced) = sym none ∙ e.0 in cc)
never-refused s t id (examine_fault.Closable x y) none e = absurd (let bad : ◌≡◌ {A = Option ExamineFault} None (Some (examine_fault.Closable x y)) = sym none ∙ e.0 in cc)
never-refused s t id (examine_fault.Unsettled x) none e = absurd (let bad : ◌≡◌ {A = Option ExamineFault} None (Some (examine_fault.Unsettled x)) = sym none ∙ e.0 in cc)

-- a closing, however it is answered, is an event that leads from the one state to the other
pub closed-leads : (s t : State) (id : BranchId) (answer : Closing) → CloseStep s id answer t → LeadsTo s t
closed-leads s t id answer e = LeadsTo-one s t (Closing_of id) (to_closing answer) e

-- Steps that are left

-- an open leaf with a round is next
next-active : (s : State) (id : BranchId) (node : Node) (round : Round) → slice_get s.nodes id.0 ≡ Some node → node.fate ≡ Undone → node.round ≡ Some round → is_next s id ≡ true
next-active s id node round is undone has =
    ap (λ (o : Option Node). is_next_in (nat_lt (active_count s) MAX_ROUNDS) (state_in o)) is
    ∙ ap (λ (f : Fate). is_next_in (nat_lt (active_count s) MAX_ROUNDS) (state_by f node.round)) undone
    ∙ ap (λ (o : Option Round). is_next_in (nat_lt (active_count s) MAX_ROUNDS) (state_by Undone o)) has

steps-round : (s : State) (id : BranchId) (node : Node) (round : Round) → slice_get s.nodes id.0 ≡ Some node → node.round ≡ Some round
    → steps_left s id ≡ versions_left node.completed (left_of round) * (length s.problem.demands + 3) + (left_of round + cut_left node.cut + unsettled_left node.settled)
steps-round s id node round is has =
    ap (steps_in (length s.problem.demands)) is ∙ ap (λ (o : Option Round). steps_by (length s.problem.demands) node.completed o node.cut node.settled) has

steps-waiting : (s : State) (id : BranchId) (node : Node) → slice_get s.nodes id.0 ≡ Some node → node.round ≡ None → steps_left s id ≡ (2 * MAX_VERSIONS + 1) * (length s.problem.demands + 3)
steps-waiting s id node is none =
    ap (steps_in (length s.problem.demands)) is ∙ ap (λ (o : Option Round). steps_by (length s.problem.demands) node.completed o node.cut node.settled) none

-- fewer steps under as many versions, or under fewer
fewer-same : (a b v m x y : ℕ) → a ≡ v * m + x → b ≡ v * m + y → y < x → b < a
fewer-same a b v m x y before after less = omega arith

fewer-versions : (a b v w m x y : ℕ) → a ≡ v * m + x → b ≡ w * m + y → w < v → y < m + x → b < a
fewer-versions a b v w m x y before after less short =
    let most : (w + 1) * m ≤ v * m = mul-le-mul (let below : w + 1 ≤ v = omega arith in below) (let same : m ≤ m = omega arith in same) in
    let split : (w + 1) * m ≡ w * m + m = one_more w m in
    omega arith
  where
    one_more : (n k : ℕ) → (n + 1) * k ≡ n * k + k
    one_more n k = grind arith

versions-complete : (completed left : ℕ) → left ≡ 0 → versions_left completed left ≡ 2 * (MAX_VERSIONS - completed) + 1
versions-complete completed zero none = refl
versions-complete completed (suc left) none = absurd (omega arith)

versions-open : (completed left : ℕ) → 0 < left → versions_left completed left ≡ 2 * (MAX_VERSIONS - completed)
versions-open completed zero some = absurd (omega arith)
versions-open completed (suc left) some = refl

-- a node takes a round: an empty one has fewer versions before it than a number that is more than twice those that are left
taken-versions : (p : Parts) (cuts : List Cut) (old : Node) (round : Round) (new : Node) → TakesRound p cuts old round new → old.completed < MAX_VERSIONS → versions_left new.completed (left_of round) ≤ 2 * (MAX_VERSIONS - old.completed)
taken-versions p cuts old round new h room = elim h [
  | inl c ↦
      let count : new.completed ≡ suc old.completed = ap (λ (x : Node). x.completed) c.becomes in
      let v = versions-complete new.completed (left_of round) c.complete in
      omega arith
  | inr g ↦
      let count : new.completed ≡ old.completed = ap (λ (x : Node). x.completed) g.becomes in
      let v = versions-open new.completed (left_of round) g.incomplete in
      omega arith
]

cut-le : (cut : Option HeldCut) → cut_left cut ≤ 1
cut-le None = omega arith
cut-le (Some cut) = omega arith

unsettled-le : (settled : Bool) → unsettled_left settled ≤ 1
unsettled-le true = omega arith
unsettled-le false = omega arith

gap-le : (o : Option Found) → gap_of o ≤ 1
gap-le None = omega arith
gap-le (Some found) = omega arith

left-le : (round : Round) → left_of round ≤ length round.found
left-le round = let most = sum_by-le gap_of 1 round.found (λ k d within. gap-le _) in omega arith

-- Openings

opened-closer : (s t : State) (id : BranchId) (opened : Opened) → IsReachable s → Opens s id opened t → IsCloser s t id
opened-closer s t id opened h e =
    let may = e.may in
    let round = empty_round s opened.slot may.node.first_prices in
    let at : slice_get t.nodes id.0 ≡ Some e.after = ap (λ (x : State). slice_get x.nodes id.0) e.becomes ∙ slice_get-set_same s.nodes id.0 may.node e.after may.is_node in
    let has : e.after.round ≡ Some round = takes-round s.problem s.cuts may.node round e.after e.takes in
    let undone : e.after.fate ≡ Undone = TakesRound-fate s.problem s.cuts may.node round e.after e.takes ∙ may.undone in
    let none : may.node.completed ≡ 0 = (node_at s id.0 may.node (IsReachable-sound s h) may.is_node).waiting may.undone may.no_round in
    let versions = taken-versions s.problem s.cuts may.node round e.after e.takes (omega arith) in
    let same : length t.problem.demands ≡ length s.problem.demands = ap (λ (x : State). length x.problem.demands) e.becomes in
    let most = left-le round in
    let long : length round.found ≡ length s.problem.demands = length-replicate (length s.problem.demands) None in
    let cut = cut-le e.after.cut in
    let settled = unsettled-le e.after.settled in
    let below : versions_left e.after.completed (left_of round) < 2 * MAX_VERSIONS + 1 = omega arith in
    let short : left_of round + cut_left e.after.cut + unsettled_left e.after.settled < (length s.problem.demands + 3) + 0 = omega arith in
    record {
      examined = ap (λ (x : State). x.examined) e.becomes;
      next = next-active t id e.after round at undone has;
      fewer = fewer-versions (steps_left s id) (steps_left t id) (2 * MAX_VERSIONS + 1) (versions_left e.after.completed (left_of round)) (length s.problem.demands + 3) 0 (left_of round + cut_left e.after.cut + unsettled_left e.after.settled)
          (steps-waiting s id may.node may.is_node may.no_round ∙ plus_zero _)
          (steps-round t id e.after round at has ∙ ap (λ (d : ℕ). versions_left e.after.completed (left_of round) * (d + 3) + (left_of round + cut_left e.after.cut + unsettled_left e.after.settled)) same)
          below short;
    }
  where
    plus_zero : (n : ℕ) → n ≡ n + 0
    plus_zero n = omega arith

-- an opening that is not refused
pub opened-on : (s t : State) (id : BranchId) (answer : Result Opened RoundFault) → IsReachable s → open_fault s id ≡ None → OpenStep s id answer t → IsCloser s t id
opened-on s t id (Ok opened) h none e = opened-closer s t id opened h e
opened-on s t id (Err fault) h none e = absurd (let bad : ◌≡◌ {A = Option RoundFault} None (Some fault) = sym none ∙ e.0 in cc)

-- an opening, however it is answered, is an event that leads from the one state to the other
pub opened-leads : (s t : State) (id : BranchId) (answer : Result Opened RoundFault) → OpenStep s id answer t → LeadsTo s t
opened-leads s t id answer e = LeadsTo-one s t (Opening id) (to_opening answer) e

-- Pricing

module _ (s : State) (id : BranchId) (version : ℕ) (k : DemandId) (gap : IsGap s id version k) where
  abbrev gap-round : HasRound s id
  gap-round = record { node = gap.1.node; round = gap.1.round; is_node = gap.1.active.is_node; is_round = gap.1.active.is_round }

  -- a node with a demand that is to be priced has a round
  pub gap-some : IsSome (round_of s id)
  gap-some = ap is_some (round_of-has s id gap-round)

  -- the number of a demand that is to be priced is below the count of demands
  pub gap-within : IsReachable s → k.0 < length s.problem.demands
  gap-within h =
      let below = slice_get_within gap.1.round.found k.0 None gap.1.not_priced in
      let count = (sound-round s id (IsReachable-sound s h) gap-round).count in
      omega arith

  gap-stale : {F : Type 0} (spent : ℕ → F) (stale : Option ℕ → F) → stale_fault spent stale s id version ≡ None
  gap-stale spent stale =
      let current : is_version (version_in (round_of s id)) version ≡ true =
      ap (λ (o : Option Round). is_version (version_in o) version) (round_of-has s id gap-round) ∙ eq-eqb _ _ gap.1.active.version_is in
      none-or_else _ _ (none-when _ (spent s.examined) (spent-false s gap.1.not_spent)) (none-when _ (stale (version_in (round_of s id))) (not-true _ current))

  gap-already : (is_priced (round_of s id) k.0 || has_cut (slice_get s.nodes id.0)) ≡ false
  gap-already = or-both_false _ _
      (ap (λ (o : Option Round). is_priced o k.0) (round_of-has s id gap-round) ∙ not_priced-at gap.1.round k.0 gap.1.not_priced)
      (ap has_cut gap.1.active.is_node ∙ ap (λ (o : Option HeldCut). is_some o) gap.1.no_cut)

-- what fits as it is read fits as it is offered
pub fits-told : (read now : State) (id : BranchId) (k : ℕ) (known found : Priced) → read ≡ now → found ≡ known → unfit_in read.problem (slice_get read.nodes id.0) k known ≡ None
    → unfit_in now.problem (slice_get now.nodes id.0) k found ≡ None
fits-told read now id k known found is same fits =
    subst (λ (x : Priced). unfit_in now.problem (slice_get now.nodes id.0) k x ≡ None) (sym same) (subst (λ (t : State). unfit_in t.problem (slice_get t.nodes id.0) k known ≡ None) is fits)

-- an offer of what fits is not refused
pub none-offer_fault : (s : State) (offer : Offer) → IsReachable s → IsGap s offer.node offer.version offer.demand → unfit_in s.problem (slice_get s.nodes offer.node.0) offer.demand.0 offer.found ≡ None
    → offer_fault s offer ≡ None
unfolding offer_fault
none-offer_fault s offer h gap fits =
    none-or_else _ _ (gap-stale s offer.node offer.version offer.demand gap offered.Spent offered.Stale)
    (none-or_else _ _ (none-when _ (offered.NoDemand (length s.problem.demands)) (not_above (length s.problem.demands) offer.demand.0 (gap-within s offer.node offer.version offer.demand gap h)))
    (none-or_else _ _ (none-when _ offered.Already (gap-already s offer.node offer.version offer.demand gap)) fits))

sound-undone : (s : State) (id : BranchId) (node : Node) (round : Round) → IsReachable s → slice_get s.nodes id.0 ≡ Some node → node.round ≡ Some round → node.fate ≡ Undone
sound-undone s id node round h is has = round-undone s.problem s.cuts node round (node_at s id.0 node (IsReachable-sound s h) is) has

took-cut : (s t : State) (offer : Offer) → IsReachable s → TakesCut s offer t → IsCloser s t offer.node
took-cut s t offer h e =
    let fits = e.fits_round in
    let new : Node = record e.node { cut = Some (record { demand = offer.demand; reached = e.reached }) } in
    let at : slice_get t.nodes offer.node.0 ≡ Some new = ap (λ (x : State). slice_get x.nodes offer.node.0) e.becomes ∙ slice_get-set_same s.nodes offer.node.0 e.node new fits.is_node in
    let before = steps-round s offer.node e.node e.round fits.is_node fits.is_round in
    let same : length t.problem.demands ≡ length s.problem.demands = ap (λ (x : State). length x.problem.demands) e.becomes in
    let after = steps-round t offer.node new e.round at fits.is_round
    ∙ ap (λ (d : ℕ). versions_left e.node.completed (left_of e.round) * (d + 3) + (left_of e.round + 0 + unsettled_left e.node.settled)) same in
    let one : cut_left e.node.cut ≡ 1 = ap cut_left fits.no_cut in
    record {
      examined = ap (λ (x : State). x.examined) e.becomes;
      next = next-active t offer.node new e.round at (sound-undone s offer.node e.node e.round h fits.is_node fits.is_round) fits.is_round;
      fewer = fewer-same _ _ (versions_left e.node.completed (left_of e.round)) (length s.problem.demands + 3) (left_of e.round + cut_left e.node.cut + unsettled_left e.node.settled) (left_of e.round + 0 + unsettled_left e.node.settled) before after (omega arith);
    }

took-path : (s t : State) (offer : Offer) (left : ℕ) → IsReachable s → Accepts s offer left t → IsCloser s t offer.node
took-path s t offer left h e =
    let fits = e.fits_round in
    let round = with_found e.round offer.demand.0 e.found in
    let at : slice_get t.nodes offer.node.0 ≡ Some e.after = ap (λ (x : State). slice_get x.nodes offer.node.0) e.becomes ∙ slice_get-set_same s.nodes offer.node.0 e.node e.after fits.is_node in
    let has = takes-round s.problem s.cuts e.node round e.after e.takes in
    let undone = TakesRound-fate s.problem s.cuts e.node round e.after e.takes ∙ sound-undone s offer.node e.node e.round h fits.is_node fits.is_round in
    let before = steps-round s offer.node e.node e.round fits.is_node fits.is_round in
    let same : length t.problem.demands ≡ length s.problem.demands = ap (λ (x : State). length x.problem.demands) e.becomes in
    let after = steps-round t offer.node e.after round at has
    ∙ ap (λ (d : ℕ). versions_left e.after.completed (left_of round) * (d + 3) + (left_of round + cut_left e.after.cut + unsettled_left e.after.settled)) same in
    let cut : cut_left e.after.cut ≡ cut_left e.node.cut = ap cut_left (takes-cut s.problem s.cuts e.node round e.after e.takes) in
    let settled : unsettled_left e.after.settled ≡ unsettled_left e.node.settled = ap unsettled_left (takes-settled s.problem s.cuts e.node round e.after e.takes) in
    let one = one_less e.round offer.demand.0 e.found fits.not_priced in
    let room = (rw fits.is_round at ((node_at s offer.node.0 e.node (IsReachable-sound s h) fits.is_node).versions)).room (omega arith) in
    let versions = taken-versions s.problem s.cuts e.node round e.after e.takes room in
    let had = versions-open e.node.completed (left_of e.round) (omega arith) in
    record {
      examined = ap (λ (x : State). x.examined) e.becomes;
      next = next-active t offer.node e.after round at undone has;
      fewer = less _ _ _ _ _ _ _ before after (omega arith) (omega arith);
    }
  where
    less : (a b v w m x y : ℕ) → a ≡ v * m + x → b ≡ w * m + y → w ≤ v → y < x → b < a
    less a b v w m x y before after most short = let product : w * m ≤ v * m = mul-le-mul most (let same : m ≤ m = omega arith in same) in omega arith

-- an offer that is not refused is taken
offered-on : (s t : State) (offer : Offer) (answer : Offered) → IsReachable s → offer_fault s offer ≡ None → OfferStep s offer answer t → IsCloser s t offer.node
offered-on s t offer offered.CutTaken h none e = took-cut s t offer h e
offered-on s t offer (offered.Accepted left) h none e = took-path s t offer left h e
offered-on s t offer (offered.Spent x) h none e = absurd (let bad : ◌≡◌ {A = Option Offered} None (Some (offered.Spent x)) = sym none ∙ e.0 in cc)
offered-on s t offer (offered.Stale x) h none e = absurd (let bad : ◌≡◌ {A = Option Offered} None (Some (offered.Stale x)) = sym none ∙ e.0 in cc)
offered-on s t offer (offered.NoDemand x) h none e = absurd (let bad : ◌≡◌ {A = Option Offered} None (Some (offered.NoDemand x)) = sym none ∙ e.0 in cc)
offered-on s t offer offered.Already h none e = absurd (let bad : ◌≡◌ {A = Option Offered} None (Some offered.Already) = sym none ∙ e.0 in cc)
offered-on s t offer (offered.Unfit x) h none e = absurd (let bad : ◌≡◌ {A = Option Offered} None (Some (offered.Unfit x)) = sym none ∙ e.0 in cc)

-- the offer of what was found for a gap
pub priced-on : (s t : State) (id : BranchId) (version : ℕ) (k : DemandId) (found : Priced) (answer : Offered) → IsReachable s → IsGap s id version k
    → unfit_in s.problem (slice_get s.nodes id.0) k.0 found ≡ None → OfferStep s (record { node = id; version = version; demand = k; found = found }) answer t → IsCloser s t id
priced-on s t id version k found answer h gap fits e =
    let offer : Offer = record { node = id; version = version; demand = k; found = found } in
    offered-on s t offer answer h (none-offer_fault s offer h gap fits) e

-- an offer, however it is answered, is an event that leads from the one state to the other
pub offered-leads : (s t : State) (offer : Offer) (answer : Offered) → OfferStep s offer answer t → LeadsTo s t
offered-leads s t offer answer e = LeadsTo-one s t (Offering offer) (to_offering answer) e

-- Designs and settlings

-- a state that stays keeps its nodes and counts
pub keeps-same : (s : State) → KeepsNodes s s
keeps-same s = record { leads = LeadsTo-stays s s refl; problem = refl; nodes = refl; examined = refl; budget = refl }

better-keeps : (s t : State) (design : Design) (answer : Result Better DesignFault) → LeadsTo s t → BetterStep s design answer t → KeepsNodes s t
better-keeps s t design (Ok (better.Taken cost)) leads e = record {
  leads = leads;
  problem = ap (λ (x : State). x.problem) e.becomes;
  nodes = ap (λ (x : State). x.nodes) e.becomes;
  examined = ap (λ (x : State). x.examined) e.becomes;
  budget = ap (λ (x : State). x.budget) e.becomes;
}
better-keeps s t design (Ok (better.NotLess cost held)) leads e = subst (KeepsNodes s) (sym e.unchanged) (keeps-same s)
better-keeps s t design (Err fault) leads e = subst (KeepsNodes s) (sym e.1) (keeps-same s)

-- a design that is handed in, however it is answered, changes no node, no budget and no examined count
pub bettered-keeps : (s t : State) (design : Design) (answer : Result Better DesignFault) → BetterStep s design answer t → KeepsNodes s t
bettered-keeps s t design answer e = better-keeps s t design answer (LeadsTo-one s t (Bettering design) (to_bettering answer) e) e

-- what the node and its round are, after steps that keep the nodes
module _ (s t : State) (id : BranchId) (version : ℕ) (advance : IsToAdvance s id version) (keeps : KeepsNodes s t) where
  abbrev there : HasRound t id
  there = record {
    node = advance.node;
    round = advance.round;
    is_node = ap (λ (xs : _). slice_get xs id.0) keeps.nodes ∙ advance.active.is_node;
    is_round = advance.active.is_round;
  }

  -- a settling brings the node closer to its end
  pub settled-closer : (u : State) → IsReachable s → Settles t id version u → IsCloser s u id
  settled-closer u h e =
      let is = e.is_gathered.complete_round in
      let before : slice_get s.nodes id.0 ≡ Some e.node = ap (λ (xs : _). slice_get xs id.0) (sym keeps.nodes) ∙ is.is_node in
      let same : e.node ≡ advance.node = one_at s.nodes id.0 e.node advance.node before advance.active.is_node in
      let new : Node = record e.node { settled = true } in
      let at : slice_get u.nodes id.0 ≡ Some new = ap (λ (x : State). slice_get x.nodes id.0) e.becomes ∙ slice_get-set_same t.nodes id.0 e.node new is.is_node in
      let one : unsettled_left e.node.settled ≡ 1 = ap (λ (x : Node). unsettled_left x.settled) same ∙ ap unsettled_left advance.not_settled in
      let old_steps = steps-round s id e.node e.round before is.is_round in
      let same_size : length u.problem.demands ≡ length s.problem.demands = ap (λ (x : State). length x.problem.demands) e.becomes ∙ ap (λ (p : Parts). length p.demands) keeps.problem in
      let new_steps = steps-round u id new e.round at is.is_round
      ∙ ap (λ (d : ℕ). versions_left e.node.completed (left_of e.round) * (d + 3) + (left_of e.round + cut_left e.node.cut + 0)) same_size in
      record {
        examined = ap (λ (x : State). x.examined) e.becomes ∙ keeps.examined;
        next = next-active u id new e.round at (sound-undone s id e.node e.round h before is.is_round) is.is_round;
        fewer = fewer-same _ _ (versions_left e.node.completed (left_of e.round)) (length s.problem.demands + 3) (left_of e.round + cut_left e.node.cut + unsettled_left e.node.settled) (left_of e.round + cut_left e.node.cut + 0) old_steps new_steps (omega arith);
      }

  -- a publishing does, too
  pub published-closer : (u : State) (prices : List ℕ) (slot next : ℕ) → IsReachable s → Publishes t id version prices slot next u → IsCloser s u id
  published-closer u prices slot next h e =
      let is = e.may.is_gathered.complete_round in
      let before : slice_get s.nodes id.0 ≡ Some e.node = ap (λ (xs : _). slice_get xs id.0) (sym keeps.nodes) ∙ is.is_node in
      let marked : Node = record e.node { crowd_tried = e.mark } in
      let round = empty_round t e.round.slot prices in
      let at : slice_get u.nodes id.0 ≡ Some e.after = ap (λ (x : State). slice_get x.nodes id.0) e.becomes ∙ slice_get-set_same t.nodes id.0 e.node e.after is.is_node in
      let has : e.after.round ≡ Some round = takes-round t.problem t.cuts marked round e.after e.takes in
      let undone : e.after.fate ≡ Undone = TakesRound-fate t.problem t.cuts marked round e.after e.takes ∙ sound-undone s id e.node e.round h before is.is_round in
      let same_size : length u.problem.demands ≡ length s.problem.demands = ap (λ (x : State). length x.problem.demands) e.becomes ∙ ap (λ (p : Parts). length p.demands) keeps.problem in
      let old_steps = steps-round s id e.node e.round before is.is_round in
      let new_steps = steps-round u id e.after round at has
      ∙ ap (λ (d : ℕ). versions_left e.after.completed (left_of round) * (d + 3) + (left_of round + cut_left e.after.cut + unsettled_left e.after.settled)) same_size in
      let versions = taken-versions t.problem t.cuts marked round e.after e.takes e.may.room in
      let had = versions-complete e.node.completed (left_of e.round) is.complete in
      let most = left-le round in
      let long : length round.found ≡ length t.problem.demands = length-replicate (length t.problem.demands) None in
      let same : length t.problem.demands ≡ length s.problem.demands = ap (λ (p : Parts). length p.demands) keeps.problem in
      let cut = cut-le e.after.cut in
      let settled = unsettled-le e.after.settled in
      record {
        examined = ap (λ (x : State). x.examined) e.becomes ∙ keeps.examined;
        next = next-active u id e.after round at undone has;
        fewer = fewer-versions _ _ (versions_left e.node.completed (left_of e.round)) (versions_left e.after.completed (left_of round)) (length s.problem.demands + 3)
            (left_of e.round + cut_left e.node.cut + unsettled_left e.node.settled) (left_of round + cut_left e.after.cut + unsettled_left e.after.settled)
            old_steps new_steps (omega arith) (omega arith);
      }

  -- a node that a master step is due for has a round in which each demand is priced
  pub advance-complete : IsSomeAnd (round_of s id) (λ round. left_of round ≡ 0)
  advance-complete =
      let h : HasRound s id = record { node = advance.node; round = advance.round; is_node = advance.active.is_node; is_round = advance.active.is_round } in
      subst (λ (o : Option Round). IsSomeAnd o (λ round. left_of round ≡ 0)) (sym (round_of-has s id h)) advance.complete

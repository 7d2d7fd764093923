-- Each event keeps a state sound, so each state that events lead to is.
use Rattle.std.proofs.Common.{◌≡◌, ℕ, zero, suc, ◌+◌, ◌^◌, List, [], ◌∷◌, ◌++◌, Option, Some, None, slice_get, inl, inr, refl, sym, ap, subst, ◌∙◌, arith, sum_by}
use Rattle.std.specs.Prelude.{Result, Ok, Err}
use Rattle.std.specs.declared.alloc.AllocError.{AllocError}
use Rattle.std.proofs.lemmas.List.Elements.{All-cons, All-nil}
use Rattle.plan_base.specs.declared.ids.BranchId.{BranchId}
use Rattle.plan_base.specs.declared.parts.Parts.{Parts}
use Rattle.plan_base.specs.declared.path.Design.{Design}
use Rattle.plan_base.specs.declared.design_fault.DesignFault.{DesignFault}
use Rattle.column_pool.proofs.AddedColumns.{AreColumns-none}
use Rattle.search_machine.specs.declared.answers.Opened.{Opened}
use Rattle.search_machine.specs.declared.answers.RoundFault.{RoundFault}
use Rattle.search_machine.specs.declared.answers.Offer.{Offer}
use Rattle.search_machine.specs.declared.answers.Offered.{Offered}
use Rattle.search_machine.specs.declared.answers.Offered.TheVariants as offered
use Rattle.search_machine.specs.declared.answers.Gather.{Gather}
use Rattle.search_machine.specs.declared.answers.Gather.TheVariants as gather
use Rattle.search_machine.specs.declared.answers.Publish.{Publish}
use Rattle.search_machine.specs.declared.answers.Publish.TheVariants as publish
use Rattle.search_machine.specs.declared.answers.Settle.{Settle}
use Rattle.search_machine.specs.declared.answers.Settle.TheVariants as settle
use Rattle.search_machine.specs.declared.answers.Closing.{Closing}
use Rattle.search_machine.specs.declared.answers.Closing.TheVariants as closing
use Rattle.search_machine.specs.declared.answers.Examined.{Examined}
use Rattle.search_machine.specs.declared.answers.Examined.TheVariants as examined
use Rattle.search_machine.specs.declared.answers.ExamineFault.{ExamineFault}
use Rattle.search_machine.specs.declared.answers.ExamineFault.TheVariants as examine_fault
use Rattle.search_machine.specs.declared.answers.Better.{Better}
use Rattle.search_machine.specs.declared.answers.Better.TheVariants as better
use Rattle.search_machine.specs.State.{Undone, Node, State, restriction_of}
use Rattle.search_machine.specs.Opening.{OpenStep}
use Rattle.search_machine.specs.Offering.{OfferStep}
use Rattle.search_machine.specs.Gathering.{GatherStep}
use Rattle.search_machine.specs.Publishing.{PublishStep}
use Rattle.search_machine.specs.Settling.{SettleStep}
use Rattle.search_machine.specs.Closing.{CloseStep}
use Rattle.search_machine.specs.Examining.{ExamineStep}
use Rattle.search_machine.specs.Bettering.{BetterStep}
use Rattle.search_machine.specs.Machine.{
  Event,
  Opening,
  Offering,
  Gathering,
  Publishing,
  Settling,
  Closing_of,
  Examining,
  Bettering,
  Answer,
  to_opening,
  to_offering,
  to_gathering,
  to_publishing,
  to_settling,
  to_closing,
  to_examining,
  to_bettering,
  Step,
  Entry,
  accepted_in,
  versions_made_by,
  IsCounted,
  Run,
  root_with,
  IsOpeningState,
  IsReachable,
}
use Rattle.search_machine.specs.Nodes.{IsOpenEnough, IsSoundNode, HasSoundFate}
use Rattle.search_machine.specs.Family.{badge_at, HasChildrenBy}
use Rattle.search_machine.specs.Counts.{IsShallow, weight_in}
use Rattle.search_machine.specs.Soundness.{IsSound}
use Rattle.search_machine.proofs.Frames.{no_children}
use Rattle.std.proofs.lemmas.List.Sums.{sum_by-cons}
use Rattle.proof_tree.specs.declared.cuts.Cut.{Cut}
use Rattle.proof_tree.specs.Regions.{whole}
use Rattle.link_steps.proofs.WholeRanges.{AreRanges-whole}
use Rattle.search_machine.specs.Depth.{depth_below}
use Rattle.search_machine.proofs.Gathering.{Gathers-sound, GathersFront-sound}
use Rattle.search_machine.proofs.Publishing.{Publishes-sound}
use Rattle.search_machine.proofs.Settling.{Settles-sound}
use Rattle.search_machine.proofs.Offering.{TakesCut-sound, Accepts-sound}
use Rattle.search_machine.proofs.Opening.{Opens-sound}
use Rattle.search_machine.proofs.ClosedNodes.{Closes-sound, ClosesByCut-sound, ClosesFar-sound, ClosesOverfull-sound}
use Rattle.search_machine.proofs.Bettering.{TakesBetter-sound, ClosesRouted-sound}
use Rattle.search_machine.proofs.Dividing.{waiting-sound, Divides-sound}

-- a refused event changes nothing
unchanged-sound : (s t : State) → IsSound s → t ≡ s → IsSound t
unchanged-sound s t h e = subst IsSound (sym e) h

module _ where
  OpenStep-sound : (s t : State) (id : BranchId) (answer : Result Opened RoundFault) → IsSound s → OpenStep s id answer t → IsSound t
  OpenStep-sound s t id (Ok opened) h e = Opens-sound s id h opened t e
  OpenStep-sound s t id (Err fault) h e = unchanged-sound s t h e.1

  OfferStep-sound : (s t : State) (offer : Offer) (answer : Offered) → IsSound s → OfferStep s offer answer t → IsSound t
  OfferStep-sound s t offer offered.CutTaken h e = TakesCut-sound s offer h t e
  OfferStep-sound s t offer (offered.Accepted left) h e = Accepts-sound s offer h left t e
  OfferStep-sound s t offer refusal h e = unchanged-sound s t h e.1

  GatherStep-sound : (s t : State) (id : BranchId) (version : ℕ) (answer : Result Gather AllocError) → IsSound s → GatherStep s id version answer t → IsSound t
  GatherStep-sound s t id version (Ok (gather.Taken brief)) h e = Gathers-sound s t id version brief h e
  GatherStep-sound s t id version (Ok refusal) h e = unchanged-sound s t h e.1
  GatherStep-sound s t id version (Err wanting) h e = elim e [ inl same ↦ unchanged-sound s t h same | inr front ↦ GathersFront-sound s t id version h front ]

  PublishStep-sound : (s t : State) (id : BranchId) (seen : ℕ) (prices : List ℕ) (answer : Publish) → IsSound s → PublishStep s id seen prices answer t → IsSound t
  PublishStep-sound s t id seen prices (publish.Published slot version) h e = Publishes-sound s t id seen prices slot version h e
  PublishStep-sound s t id seen prices (publish.NoGain x y) h e = unchanged-sound s t h e.unchanged
  PublishStep-sound s t id seen prices refusal h e = unchanged-sound s t h e.1

  SettleStep-sound : (s t : State) (id : BranchId) (version : ℕ) (answer : Settle) → IsSound s → SettleStep s id version answer t → IsSound t
  SettleStep-sound s t id version settle.Done h e = Settles-sound s t id version h e
  SettleStep-sound s t id version (settle.Improves x y) h e = unchanged-sound s t h e.unchanged
  SettleStep-sound s t id version refusal h e = unchanged-sound s t h e.1

  CloseStep-sound : (s t : State) (id : BranchId) (answer : Closing) → IsSound s → CloseStep s id answer t → IsSound t
  CloseStep-sound s t id closing.Closed h e = Closes-sound s id h t e
  CloseStep-sound s t id refusal h e = unchanged-sound s t h e.1

  ExamineStep-sound : (s t : State) (id : BranchId) (answer : Result Examined ExamineFault) → IsSound s → ExamineStep s id answer t → IsSound t
  ExamineStep-sound s t id (Ok examined.Cut) h e = ClosesByCut-sound s id h t e
  ExamineStep-sound s t id (Ok (examined.Divided left right)) h e = Divides-sound s id left right t h e
  ExamineStep-sound s t id (Ok (examined.Far demand)) h e = ClosesFar-sound s id h t demand e
  ExamineStep-sound s t id (Ok examined.Overfull) h e = ClosesOverfull-sound s id h t e
  ExamineStep-sound s t id (Ok examined.Routed) h e = ClosesRouted-sound s h id t e
  ExamineStep-sound s t id (Err examine_fault.OutOfMemory) h e = unchanged-sound s t h e
  ExamineStep-sound s t id (Err refusal) h e = unchanged-sound s t h e.1

  BetterStep-sound : (s t : State) (design : Design) (answer : Result Better DesignFault) → IsSound s → BetterStep s design answer t → IsSound t
  BetterStep-sound s t design (Ok (better.Taken cost)) h e = TakesBetter-sound s h design cost t e
  BetterStep-sound s t design (Ok (better.NotLess cost held)) h e = unchanged-sound s t h e.unchanged
  BetterStep-sound s t design (Err fault) h e = unchanged-sound s t h e.1

  -- each event leads from a sound state to a sound state
  pub Step-sound : (s t : State) (event : Event) (answer : Answer) → IsSound s → Step s event answer t → IsSound t
  Step-sound s t (Opening id) (to_opening answer) h e = OpenStep-sound s t id answer h e
  Step-sound s t (Offering offer) (to_offering answer) h e = OfferStep-sound s t offer answer h e
  Step-sound s t (Gathering id version) (to_gathering answer) h e = GatherStep-sound s t id version answer h e
  Step-sound s t (Publishing id seen prices) (to_publishing answer) h e = PublishStep-sound s t id seen prices answer h e
  Step-sound s t (Settling id version) (to_settling answer) h e = SettleStep-sound s t id version answer h e
  Step-sound s t (Closing_of id) (to_closing answer) h e = CloseStep-sound s t id answer h e
  Step-sound s t (Examining id) (to_examining answer) h e = ExamineStep-sound s t id answer h e
  Step-sound s t (Bettering design) (to_bettering answer) h e = BetterStep-sound s t design answer h e
  Step-sound s t event answer h e = absurd e

  -- the events of a run lead from a sound state to a sound state
  pub Run-sound : (s t : State) (entries : List Entry) → IsSound s → Run s entries t → IsSound t
  Run-sound s t [] h run = unchanged-sound s t h run
  Run-sound s t (entry ∷ entries) h run = Run-sound run.0 t entries (Step-sound s run.0 entry.event entry.answer h run.1) run.2

-- no event changes the problem, the cuts or the budget, and the counts rise by what the answer says
pub record GoesTo (s : State) (answer : Answer) (t : State) : Type 0 where
  pub problem : t.problem ≡ s.problem
  pub cuts : t.cuts ≡ s.cuts
  pub budget : t.budget ≡ s.budget
  pub accepted : t.accepted ≡ s.accepted + accepted_in answer
  pub next_version : t.next_version ≡ s.next_version + versions_made_by answer

-- where neither count rises
goes_to : (s : State) (answer : Answer) (t u : State) → t ≡ u → u.problem ≡ s.problem → u.cuts ≡ s.cuts → u.budget ≡ s.budget → u.accepted ≡ s.accepted → u.next_version ≡ s.next_version
    → accepted_in answer ≡ 0 → versions_made_by answer ≡ 0 → GoesTo s answer t
goes_to s answer t u e p c b a v none none' =
    subst (GoesTo s answer) (sym e) (record { problem = p; cuts = c; budget = b; accepted = omega arith; next_version = omega arith })

refused : (s : State) (answer : Answer) (t : State) → t ≡ s → accepted_in answer ≡ 0 → versions_made_by answer ≡ 0 → GoesTo s answer t
refused s answer t e a v = goes_to s answer t s e refl refl refl refl refl a v

-- each event keeps the instance, the cuts and the budget, and the counts rise by what its answer says
pub Step-goes : (s t : State) (event : Event) (answer : Answer) → Step s event answer t → GoesTo s answer t
Step-goes s t (Opening id) (to_opening answer) e = by answer e
  where
    by : (a : Result Opened RoundFault) → OpenStep s id a t → GoesTo s (to_opening a) t
    by (Ok opened) x = subst (GoesTo s (to_opening (Ok opened))) (sym x.becomes) (record { problem = refl; cuts = refl; budget = refl; accepted = omega arith; next_version = omega arith })
    by (Err fault) x = refused s (to_opening (Err fault)) t x.1 refl refl
Step-goes s t (Offering offer) (to_offering answer) e = by answer e
  where
    by : (a : Offered) → OfferStep s offer a t → GoesTo s (to_offering a) t
    by offered.CutTaken x = goes_to s (to_offering offered.CutTaken) t _ x.becomes refl refl refl refl refl refl refl
    by (offered.Accepted left) x = subst (GoesTo s (to_offering (offered.Accepted left))) (sym x.becomes) (record { problem = refl; cuts = refl; budget = refl; accepted = omega arith; next_version = omega arith })
    by refusal x = refused s (to_offering refusal) t x.1 refl refl
Step-goes s t (Gathering id version) (to_gathering answer) e = by answer e
  where
    by : (a : Result Gather AllocError) → GatherStep s id version a t → GoesTo s (to_gathering a) t
    by (Ok (gather.Taken brief)) x = goes_to s (to_gathering (Ok (gather.Taken brief))) t _ x.becomes refl refl refl refl refl refl refl
    by (Ok refusal) x = refused s (to_gathering (Ok refusal)) t x.1 refl refl
    by (Err wanting) x = elim x [
      | inl same ↦ refused s (to_gathering (Err wanting)) t same refl refl
      | inr front ↦ goes_to s (to_gathering (Err wanting)) t _ front.becomes refl refl refl refl refl refl refl
    ]
Step-goes s t (Publishing id seen prices) (to_publishing answer) e = by answer e
  where
    by : (a : Publish) → PublishStep s id seen prices a t → GoesTo s (to_publishing a) t
    by (publish.Published slot version) x =
        subst (GoesTo s (to_publishing (publish.Published slot version))) (sym x.becomes) (record { problem = refl; cuts = refl; budget = refl; accepted = omega arith; next_version = omega arith })
    by (publish.NoGain y z) x = refused s (to_publishing (publish.NoGain y z)) t x.unchanged refl refl
    by refusal x = refused s (to_publishing refusal) t x.1 refl refl
Step-goes s t (Settling id version) (to_settling answer) e = by answer e
  where
    by : (a : Settle) → SettleStep s id version a t → GoesTo s (to_settling a) t
    by settle.Done x = goes_to s (to_settling settle.Done) t _ x.becomes refl refl refl refl refl refl refl
    by (settle.Improves y z) x = refused s (to_settling (settle.Improves y z)) t x.unchanged refl refl
    by refusal x = refused s (to_settling refusal) t x.1 refl refl
Step-goes s t (Closing_of id) (to_closing answer) e = by answer e
  where
    by : (a : Closing) → CloseStep s id a t → GoesTo s (to_closing a) t
    by closing.Closed x = goes_to s (to_closing closing.Closed) t _ x.becomes refl refl refl refl refl refl refl
    by refusal x = refused s (to_closing refusal) t x.1 refl refl
Step-goes s t (Examining id) (to_examining answer) e = by answer e
  where
    by : (a : Result Examined ExamineFault) → ExamineStep s id a t → GoesTo s (to_examining a) t
    by (Ok examined.Cut) x = goes_to s (to_examining (Ok examined.Cut)) t _ x.becomes refl refl refl refl refl refl refl
    by (Ok (examined.Divided left right)) x = goes_to s (to_examining (Ok (examined.Divided left right))) t _ x.becomes refl refl refl refl refl refl refl
    by (Ok (examined.Far demand)) x = goes_to s (to_examining (Ok (examined.Far demand))) t _ x.becomes refl refl refl refl refl refl refl
    by (Ok examined.Overfull) x = goes_to s (to_examining (Ok examined.Overfull)) t _ x.becomes refl refl refl refl refl refl refl
    by (Ok examined.Routed) x = goes_to s (to_examining (Ok examined.Routed)) t _ x.becomes refl refl refl refl refl refl refl
    by (Err examine_fault.OutOfMemory) x = refused s (to_examining (Err examine_fault.OutOfMemory)) t x refl refl
    by (Err refusal) x = refused s (to_examining (Err refusal)) t x.1 refl refl
Step-goes s t (Bettering design) (to_bettering answer) e = by answer e
  where
    by : (a : Result Better DesignFault) → BetterStep s design a t → GoesTo s (to_bettering a) t
    by (Ok (better.Taken cost)) x = goes_to s (to_bettering (Ok (better.Taken cost))) t _ x.becomes refl refl refl refl refl refl refl
    by (Ok (better.NotLess cost held)) x = refused s (to_bettering (Ok (better.NotLess cost held))) t x.unchanged refl refl
    by (Err fault) x = refused s (to_bettering (Err fault)) t x.1 refl refl
Step-goes s t event answer e = absurd e

-- a run goes on by one event
Run-push : (s t u : State) (entries : List Entry) (entry : Entry) → Run s entries t → Step t entry.event entry.answer u → Run s (entries ++ (entry ∷ [])) u
Run-push s t u [] entry run step = (u, subst (λ (x : State). Step x entry.event entry.answer u) run step, refl)
Run-push s t u (first ∷ entries) entry run step = (run.0, run.1, Run-push run.0 t u entries entry run.2 step)

-- the same opening, of an equal instance, equal cuts and an equal budget
pub opening-at : (p q : Parts) (cuts same_cuts : List Cut) (budget same_budget : ℕ) (s : State) → q ≡ p → same_cuts ≡ cuts → same_budget ≡ budget → IsOpeningState p cuts budget s → IsOpeningState q same_cuts same_budget s
opening-at p q cuts same_cuts budget same_budget s problem cuts_are budget_is h =
    subst (λ (x : Parts). IsOpeningState x same_cuts same_budget s) (sym problem)
    (subst (λ (x : List Cut). IsOpeningState p x same_budget s) (sym cuts_are) (subst (λ (b : ℕ). IsOpeningState p cuts b s) (sym budget_is) h))

-- what an event leads to from a state that can be reached can be reached too
pub IsReachable-step : (s t : State) (event : Event) (answer : Answer) → IsReachable s → Step s event answer t → IsReachable t
IsReachable-step s t event answer h step =
    let same = Step-goes s t event answer step in
    let entry : Entry = record { event = event; answer = answer } in
    record {
      opening = h.opening;
      entries = h.entries ++ (entry ∷ []);
      is_opening = opening-at s.problem t.problem s.cuts t.cuts s.budget t.budget h.opening same.problem same.cuts same.budget h.is_opening;
      run = Run-push h.opening s t h.entries entry h.run step;
    }

root_weight : (depth : ℕ) (root : Node) → root.limits ≡ [] → root.fate ≡ Undone → sum_by (weight_in depth) (root ∷ []) ≡ 2 ^ depth
root_weight depth root limits undone =
    let one = sum_by-cons (weight_in depth) root [] in
    let w : weight_in depth root ≡ 2 ^ depth = rw (undone, limits) (ap (λ (n : ℕ). 2 ^ n) (omega arith)) in
    sums _ _ _ one w
  where
    sums : (a x y : ℕ) → a ≡ x + 0 → x ≡ y → a ≡ y
    sums a x y e f = omega arith

-- the counts after a run are those before it and what its answers add
pub Run-counted : (s t : State) (entries : List Entry) → Run s entries t → IsCounted s entries t
Run-counted s t [] run = subst (IsCounted s []) (sym run) (record { accepted = omega arith; next_version = omega arith })
Run-counted s t (entry ∷ entries) run =
    let one = Step-goes s run.0 entry.event entry.answer run.1 in
    let rest = Run-counted run.0 t entries run.2 in
    let a = sum_by-cons (λ (e : Entry). accepted_in e.answer) entry entries in
    let v = sum_by-cons (λ (e : Entry). versions_made_by e.answer) entry entries in
    record { accepted = (let x = one.accepted in let y = rest.accepted in omega arith); next_version = (let x = one.next_version in let y = rest.next_version in omega arith) }

-- one node without a round has no badge, and no children
no_badge : (root : Node) → root.round ≡ None → (n : ℕ) (b : ℕ × ℕ) → badge_at (root ∷ []) n ≡ Some b → ⊥
no_badge root none zero b is = let e : badge_at (root ∷ []) 0 ≡ None = rw none refl in let bad : ◌≡◌ {A = Option (ℕ × ℕ)} None (Some b) = sym e ∙ is in cc
no_badge root none (suc n) b is = let bad : ◌≡◌ {A = Option (ℕ × ℕ)} None (Some b) = is in cc

only : (root : Node) → root.fate ≡ Undone → (n : ℕ) (node : Node) → slice_get (root ∷ []) n ≡ Some node → HasChildrenBy (root ∷ []) n node node.fate
only root undone zero node is = let same : root ≡ node = cc in no_children (root ∷ []) zero node node.fate (subst (λ (k : Node). k.fate ≡ Undone) same undone)
only root undone (suc n) node is = let bad : ◌≡◌ {A = Option Node} None (Some node) = is in absurd (cc)

-- the opening state of an instance, its cuts and a budget is sound
pub IsOpeningState-sound : (p : Parts) (cuts : List Cut) (budget : ℕ) (s : State) → IsOpeningState p cuts budget s → IsSound s
IsOpeningState-sound p cuts budget s e =
    let root : Node = root_with e.prices in
    let enough : IsOpenEnough p (restriction_of root) = record { at_target = λ k below a arc tail. refl; elsewhere = λ k at below a leaves. (a, leaves, refl) } in
    let sound = waiting-sound p cuts [] e.prices e.are_numbers enough (AreRanges-whole p) in
    subst IsSound (sym e.is_state) (record {
      lawful = e.lawful;
      cuts = e.are_cuts;
      unit = e.is_unit;
      nodes = All-cons (IsSoundNode p cuts) root [] sound (All-nil (IsSoundNode p cuts));
      fates = All-cons (HasSoundFate p cuts None) root [] tt (All-nil (HasSoundFate p cuts None));
      apart = record {
        slots = λ m n slot a b x y. absurd (no_badge root refl m (slot, a) x);
        versions = λ m n version a b x y. absurd (no_badge root refl m (a, version) x);
        below_next = λ n slot version x. absurd (no_badge root refl n (slot, version) x);
      };
      family = record {
        root = root;
        is_root = refl;
        root_limits = refl;
        root_prices = e.are_start;
        children = λ n node at. only root refl n node at;
      };
      columns = AreColumns-none p;
      incumbent = tt;
      counts = record { examined = refl; within_budget = omega arith; versions = omega arith; accepted = omega arith };
      size = refl;
      depths = λ ends are. All-cons (IsShallow p ends) root [] (record { within = omega arith }) (All-nil (IsShallow p ends));
      weights = λ ends are. root_weight (depth_below p ends (whole p)) root refl refl;
    })

-- each state that events lead to from an opening state is sound
pub IsReachable-sound : (s : State) → IsReachable s → IsSound s
IsReachable-sound s h = Run-sound h.opening s h.entries (IsOpeningState-sound s.problem s.cuts s.budget h.opening h.is_opening) h.run

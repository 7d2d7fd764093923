-- Each node but the root is the child of one node: no event makes it otherwise.
use Rattle.std.proofs.Common.{◌≡◌, ◌≢◌, ℕ, zero, suc, ◌+◌, ◌<◌, ◌≤◌, ◌⊎◌, inl, inr, List, [], ◌∷◌, ◌++◌, length, set, Option, Some, None, slice_get, refl, sym, ap, subst, ◌∙◌, arith, length-set, length-append}
use Rattle.std.specs.Prelude.{Result, Ok, Err}
use Rattle.std.specs.declared.alloc.AllocError.{AllocError}
use Rattle.std.proofs.lemmas.Option.{slice_get_within}
use Rattle.plan_base.specs.declared.ids.BranchId.{BranchId}
use Rattle.plan_base.specs.declared.parts.Parts.{Parts}
use Rattle.plan_base.specs.declared.path.Design.{Design}
use Rattle.plan_base.specs.declared.design_fault.DesignFault.{DesignFault}
use Rattle.proof_tree.specs.declared.cuts.Cut.{Cut}
use Rattle.proof_tree.specs.declared.tree.Evidence.{Evidence}
use Rattle.search_machine.specs.declared.answers.Opened.{Opened}
use Rattle.search_machine.specs.declared.answers.RoundFault.{RoundFault}
use Rattle.search_machine.specs.declared.answers.Offer.{Offer}
use Rattle.search_machine.specs.declared.answers.Offered.{Offered}
use Rattle.search_machine.specs.declared.answers.Offered.TheVariants as offered
use Rattle.search_machine.specs.declared.answers.Gather.{Gather}
use Rattle.search_machine.specs.declared.answers.Gather.TheVariants as gather
use Rattle.search_machine.specs.declared.answers.Publish.{Publish}
use Rattle.search_machine.specs.declared.answers.Publish.TheVariants as publish
use Rattle.search_machine.specs.declared.answers.Settle.{Settle}
use Rattle.search_machine.specs.declared.answers.Settle.TheVariants as settle
use Rattle.search_machine.specs.declared.answers.Closing.{Closing}
use Rattle.search_machine.specs.declared.answers.Closing.TheVariants as closing
use Rattle.search_machine.specs.declared.answers.Examined.{Examined}
use Rattle.search_machine.specs.declared.answers.Examined.TheVariants as examined
use Rattle.search_machine.specs.declared.answers.ExamineFault.{ExamineFault}
use Rattle.search_machine.specs.declared.answers.ExamineFault.TheVariants as examine_fault
use Rattle.search_machine.specs.declared.answers.Better.{Better}
use Rattle.search_machine.specs.declared.answers.Better.TheVariants as better
use Rattle.branch_tree.specs.declared.node.Division.{Division}
use Rattle.branch_tree.specs.declared.node.Fate.{Fate}
use Rattle.branch_tree.specs.declared.node.Fate.TheVariants.{Undone, ClosedBy, DividedBy}
use Rattle.search_machine.specs.State.{left_limit, right_limit, Round, Node, State}
use Rattle.search_machine.specs.Changes.{TakesRound}
use Rattle.search_machine.specs.Dividing.{child_of, divided_by, Divides}
use Rattle.search_machine.specs.Opening.{OpenStep}
use Rattle.search_machine.specs.Offering.{OfferStep}
use Rattle.search_machine.specs.Gathering.{GatherStep}
use Rattle.search_machine.specs.Publishing.{PublishStep}
use Rattle.search_machine.specs.Settling.{SettleStep}
use Rattle.search_machine.specs.Closing.{CloseStep}
use Rattle.search_machine.specs.Examining.{ExamineStep}
use Rattle.search_machine.specs.Bettering.{BetterStep}
use Rattle.search_machine.specs.Machine.{Event, Opening, Offering, Gathering, Publishing, Settling, Closing_of, Examining, Bettering, Answer, to_opening, to_offering, to_gathering, to_publishing, to_settling, to_closing, to_examining, to_bettering, Step, Entry, Run, IsOpeningState, IsReachable}
use Rattle.search_machine.specs.Family.{HasChildrenBy}
use Rattle.search_machine.specs.Soundness.{IsSound}
use Rattle.plan_of_search.specs.PlanParts.{HaveChildren}
use Rattle.search_machine.proofs.Frames.{same_or_other}
use Rattle.search_machine.proofs.Lists.{slice_get-set_same, slice_get-set_other, slice_get-append_left, slice_get-append_right}
use Rattle.search_machine.proofs.Runs.{Step-sound, IsOpeningState-sound}

-- the division of a divided node
abbrev pub division_by : Fate → Option Division
division_by Undone = None
division_by (ClosedBy found) = None
division_by (DividedBy d) = Some d

-- the division of the node that is there, if it is divided
abbrev pub division_in : Option Node → Option Division
division_in None = None
division_in (Some node) = division_by node.fate

-- the division of the node of this number, if it is divided
abbrev pub division_at : List Node → ℕ → Option Division
division_at nodes n = division_in (slice_get nodes n)

-- the number is one of the two children
abbrev pub IsChildNumber : Division → ℕ → Type 0
IsChildNumber d k = (d.left_child.0 ≡ k) ⊎ (d.right_child.0 ≡ k)

-- the node of the first number is divided, and the second number is one of its children
abbrev pub IsParent : (ℕ → Option Division) → ℕ → ℕ → Type 0
IsParent division m k = (d : Division) × (division m ≡ Some d) × IsChildNumber d k

-- each number but the root's is one child of one node
pub record AreBornOnce (count : ℕ) (division : ℕ → Option Division) : Type 0 where
  pub apart : (m : ℕ) (d : Division) → division m ≡ Some d → d.left_child.0 ≢ d.right_child.0
  pub parent : (k : ℕ) → 0 < k → k < count → (m : ℕ) × IsParent division m k
  pub only : (k m other : ℕ) → IsParent division m k → IsParent division other k → m ≡ other

-- the same of nodes
abbrev pub AreBorn : List Node → Type 0
AreBorn nodes = AreBornOnce (length nodes) (division_at nodes)

-- the divisions of two lists of nodes are the same
pub record SameDivisions (old new : List Node) : Type 0 where
  pub count : length new ≡ length old
  pub division : (n : ℕ) → division_at new n ≡ division_at old n

IsParent-same : (f g : ℕ → Option Division) → ((n : ℕ) → g n ≡ f n) → (m k : ℕ) → IsParent g m k → IsParent f m k
IsParent-same f g same m k h = (h.0, sym (same m) ∙ h.1, h.2)

AreBorn-same : (old new : List Node) → SameDivisions old new → AreBorn old → AreBorn new
AreBorn-same old new same h = record {
  apart = λ m d is. h.apart m d (sym (same.division m) ∙ is);
  parent = λ k some within.
      let found = h.parent k some (subst (λ (n : ℕ). k < n) same.count within) in
      (found.0, IsParent-same (division_at new) (division_at old) (λ n. sym (same.division n)) found.0 k found.1);
  only = λ k m other x y. h.only k m other (IsParent-same (division_at old) (division_at new) same.division m k x) (IsParent-same (division_at old) (division_at new) same.division other k y);
}

SameDivisions-refl : (nodes : List Node) → SameDivisions nodes nodes
SameDivisions-refl nodes = record { count = refl; division = λ n. refl }

-- one node changes, and its division does not
SameDivisions-set : (nodes : List Node) (i : ℕ) (node new : Node) → slice_get nodes i ≡ Some node → division_by new.fate ≡ division_by node.fate → SameDivisions nodes (set nodes i new)
SameDivisions-set nodes i node new is same = record {
  count = length-set nodes i new;
  division = λ n. elim (same_or_other n i) [
    | inl e ↦ subst (λ (k : ℕ). division_at (set nodes i new) k ≡ division_at nodes k) (sym e)
        (ap division_in (slice_get-set_same nodes i node new is) ∙ same ∙ sym (ap division_in is))
    | inr ne ↦ ap division_in (slice_get-set_other nodes i n new ne)
  ];
}

-- a child comes after its parent, and is there
pub parent-before : (nodes : List Node) (h : HaveChildren nodes) (m k : ℕ) → IsParent (division_at nodes) m k → (m < k) × (k < length nodes)
parent-before nodes h m k found = by (slice_get nodes m) refl found.1
  where
    by_fate : (node : Node) (fate : Fate) → HasChildrenBy nodes m node fate → division_by fate ≡ Some found.0 → (m < k) × (k < length nodes)
    by_fate node Undone children is = cc
    by_fate node (ClosedBy x) children is = cc
    by_fate node (DividedBy d) children is =
        let same : d ≡ found.0 = cc in
        elim found.2 [
          | inl e ↦
              let at : d.left_child.0 ≡ k = ap (λ (x : Division). x.left_child.0) same ∙ e in
              let in_list = slice_get_within nodes d.left_child.0 children.0.1 children.0.2 in
              (subst (λ (n : ℕ). m < n) at children.0.0, subst (λ (n : ℕ). n < length nodes) at in_list)
          | inr e ↦
              let at : d.right_child.0 ≡ k = ap (λ (x : Division). x.right_child.0) same ∙ e in
              let in_list = slice_get_within nodes d.right_child.0 children.1.1 children.1.2 in
              (subst (λ (n : ℕ). m < n) at children.1.0, subst (λ (n : ℕ). n < length nodes) at in_list)
        ]

    by : (o : Option Node) → slice_get nodes m ≡ o → division_in o ≡ Some found.0 → (m < k) × (k < length nodes)
    by None e is = cc
    by (Some node) e is = by_fate node node.fate (h m node e) is

-- a number without a node is not below the count of nodes
pub beyond : (xs : List Node) (k : ℕ) → slice_get xs k ≡ None → length xs ≤ k
beyond [] k none = omega arith
beyond (x ∷ xs) zero none = cc
beyond (x ∷ xs) (suc k) none = let rest = beyond xs k none in omega arith

more : (a b : ℕ) → a ≤ b → (j : ℕ) × (a + j ≡ b)
more zero b le = (b, omega arith)
more (suc a) zero le = absurd (omega arith)
more (suc a) (suc b) le = let rest = more a b (omega arith) in (rest.0, (let e = rest.1 in omega arith))

last_two : (n k : ℕ) → k < n + 2 → (k < n) ⊎ ((k ≡ n) ⊎ (k ≡ suc n))
last_two n k within = elim (same_or_other k n) [
  | inl e ↦ inr (inl e)
  | inr ne ↦ elim (same_or_other k (suc n)) [ inl e ↦ inr (inr e) | inr other ↦ inl (omega arith) ]
]

-- a node becomes divided, and its children are the last two
module _ (nodes : List Node) (i : ℕ) (node : Node) (d : Division) (one other : Node) (is : slice_get nodes i ≡ Some node) (undone : node.fate ≡ Undone) (h : HaveChildren nodes) (born : AreBorn nodes)
    (left_next : d.left_child.0 ≡ length nodes) (right_next : d.right_child.0 ≡ suc (length nodes)) (one_undone : one.fate ≡ Undone) (other_undone : other.fate ≡ Undone) where
  abbrev after : List Node
  after = set nodes i (divided_by d node) ++ (one ∷ other ∷ [])

  at_i : division_at after i ≡ Some d
  at_i = ap division_in (slice_get-append_left (set nodes i (divided_by d node)) (one ∷ other ∷ []) i (divided_by d node) (slice_get-set_same nodes i node (divided_by d node) is))

  was_none : division_at nodes i ≡ None
  was_none = ap division_in is ∙ ap division_by undone

  size : length (set nodes i (divided_by d node)) ≡ length nodes
  size = length-set nodes i (divided_by d node)

  at_end : (j : ℕ) → division_at after (length nodes + j) ≡ None
  at_end j =
      subst (λ (n : ℕ). division_at after (n + j) ≡ None) size
      (ap division_in (slice_get-append_right (set nodes i (divided_by d node)) (one ∷ other ∷ []) j) ∙ none j)
    where
      none : (j : ℕ) → division_in (slice_get (one ∷ other ∷ []) j) ≡ None
      none zero = ap division_by one_undone
      none (suc zero) = ap division_by other_undone
      none (suc (suc j)) = refl

  elsewhere : (n : ℕ) → n ≢ i → division_at after n ≡ division_at nodes n
  elsewhere n ne = by (slice_get nodes n) refl
    where
      by : (o : Option Node) → slice_get nodes n ≡ o → division_at after n ≡ division_in o
      by (Some x) e =
          ap division_in (slice_get-append_left (set nodes i (divided_by d node)) (one ∷ other ∷ []) n x (slice_get-set_other nodes i n (divided_by d node) ne ∙ e))
      by None e =
          let j = more (length nodes) n (beyond nodes n e) in
          subst (λ (k : ℕ). division_at after k ≡ None) j.1 (at_end j.0)

  -- a parent of an old number is an old parent, and the parent of a new one is the divided node
  parent_cases : (m k : ℕ) → IsParent (division_at after) m k → ((m ≡ i) × (length nodes ≤ k)) ⊎ (IsParent (division_at nodes) m k)
  parent_cases m k found = elim (same_or_other m i) [
    | inl e ↦
        let here : division_at after i ≡ Some found.0 = subst (λ (n : ℕ). division_at after n ≡ Some found.0) e found.1 in
        let both : ◌≡◌ {A = Option Division} (Some d) (Some found.0) = sym at_i ∙ here in
        let same : d ≡ found.0 = cc in
        inl (
          e,
          elim found.2 [
            | inl l ↦ let at : d.left_child.0 ≡ k = ap (λ (x : Division). x.left_child.0) same ∙ l in omega arith
            | inr r ↦ let at : d.right_child.0 ≡ k = ap (λ (x : Division). x.right_child.0) same ∙ r in omega arith
          ],
        )
    | inr ne ↦ inr (found.0, sym (elsewhere m ne) ∙ found.1, found.2)
  ]

  old_child : (m k : ℕ) → IsParent (division_at nodes) m k → k < length nodes
  old_child m k found = (parent-before nodes h m k found).1

  parent_after : (k : ℕ) → 0 < k → k < length after → (m : ℕ) × IsParent (division_at after) m k
  parent_after k some within = elim (last_two (length nodes) k (subst (λ (n : ℕ). k < n) all within)) [
    | inl below ↦
        let found = born.parent k some below in
        let ne : found.0 ≢ i = λ e.
        let bad : ◌≡◌ {A = Option Division} None (Some found.1.0) = sym was_none ∙ subst (λ (n : ℕ). division_at nodes n ≡ Some found.1.0) e found.1.1 in cc in
        (found.0, (found.1.0, elsewhere found.0 ne ∙ found.1.1, found.1.2))
    | inr above ↦ (i, (d, at_i, elim above [ inl e ↦ inl (left_next ∙ sym e) | inr e ↦ inr (right_next ∙ sym e) ]))
  ]
    where
      all : length after ≡ length nodes + 2
      all = length-append (set nodes i (divided_by d node)) (one ∷ other ∷ []) ∙ ap (λ (n : ℕ). n + 2) size

  -- when a node is divided, each node but the root is still one child of one node
  pub AreBorn-divided : AreBorn after
  AreBorn-divided = record {
    apart = λ m e at. elim (same_or_other m i) [
      | inl same ↦
          let here : division_at after i ≡ Some e = subst (λ (n : ℕ). division_at after n ≡ Some e) same at in
          let both : ◌≡◌ {A = Option Division} (Some d) (Some e) = sym at_i ∙ here in
          let is_d : d ≡ e = cc in
          subst (λ (x : Division). x.left_child.0 ≢ x.right_child.0) is_d (λ equal. absurd (omega arith))
      | inr ne ↦ born.apart m e (sym (elsewhere m ne) ∙ at)
    ];
    parent = parent_after;
    only = λ k m other x y. elim (parent_cases m k x) [
      | inl a ↦ elim (parent_cases other k y) [
        | inl b ↦ a.0 ∙ sym b.0
        | inr b ↦ let low = old_child other k b in let high = a.1 in absurd (omega arith)
      ]
      | inr a ↦ elim (parent_cases other k y) [
        | inl b ↦ let low = old_child m k a in let high = b.1 in absurd (omega arith)
        | inr b ↦ born.only k m other a b
      ]
    ];
  }

-- Events

TakesRound-fate : (p : Parts) (cuts : List Cut) (old : Node) (round : Round) (new : Node) → TakesRound p cuts old round new → division_by new.fate ≡ division_by old.fate
TakesRound-fate p cuts old round new h = elim h [
  | inl c ↦ ap (λ (x : Node). division_by x.fate) c.becomes
  | inr g ↦ ap (λ (x : Node). division_by x.fate) g.becomes
]

unchanged-same : (s t : State) → t ≡ s → SameDivisions s.nodes t.nodes
unchanged-same s t e = subst (λ (x : State). SameDivisions s.nodes x.nodes) (sym e) (SameDivisions-refl s.nodes)

-- the nodes of the next state are these
to_nodes : (s t u : State) → t ≡ u → SameDivisions s.nodes u.nodes → SameDivisions s.nodes t.nodes
to_nodes s t u e h = subst (λ (x : State). SameDivisions s.nodes x.nodes) (sym e) h

-- an open leaf is closed
closed-same : (s : State) (id : BranchId) (node new : Node) (found : Evidence) → slice_get s.nodes id.0 ≡ Some node → node.fate ≡ Undone → new.fate ≡ ClosedBy found → SameDivisions s.nodes (set s.nodes id.0 new)
closed-same s id node new found is undone closed = SameDivisions-set s.nodes id.0 node new is (ap division_by closed ∙ sym (ap division_by undone))

OpenStep-same : (s t : State) (id : BranchId) (answer : Result Opened RoundFault) → OpenStep s id answer t → SameDivisions s.nodes t.nodes
OpenStep-same s t id (Ok opened) e =
    to_nodes s t _ e.becomes (SameDivisions-set s.nodes id.0 e.may.node e.after e.may.is_node (TakesRound-fate s.problem s.cuts e.may.node _ e.after e.takes))
OpenStep-same s t id (Err fault) e = unchanged-same s t e.1

OfferStep-same : (s t : State) (offer : Offer) (answer : Offered) → OfferStep s offer answer t → SameDivisions s.nodes t.nodes
OfferStep-same s t offer offered.CutTaken e = to_nodes s t _ e.becomes (SameDivisions-set s.nodes offer.node.0 e.node _ e.fits_round.is_node refl)
OfferStep-same s t offer (offered.Accepted left) e =
    to_nodes s t _ e.becomes (SameDivisions-set s.nodes offer.node.0 e.node e.after e.fits_round.is_node (TakesRound-fate s.problem s.cuts e.node _ e.after e.takes))
OfferStep-same s t offer refusal e = unchanged-same s t e.1

GatherStep-same : (s t : State) (id : BranchId) (version : ℕ) (answer : Result Gather AllocError) → GatherStep s id version answer t → SameDivisions s.nodes t.nodes
GatherStep-same s t id version (Ok (gather.Taken brief)) e = to_nodes s t _ e.becomes (SameDivisions-refl s.nodes)
GatherStep-same s t id version (Ok refusal) e = unchanged-same s t e.1
GatherStep-same s t id version (Err wanting) e = elim e [ inl same ↦ unchanged-same s t same | inr front ↦ to_nodes s t _ front.becomes (SameDivisions-refl s.nodes) ]

PublishStep-same : (s t : State) (id : BranchId) (seen : ℕ) (prices : List ℕ) (answer : Publish) → PublishStep s id seen prices answer t → SameDivisions s.nodes t.nodes
PublishStep-same s t id seen prices (publish.Published slot version) e =
    to_nodes s t _ e.becomes (SameDivisions-set s.nodes id.0 e.node e.after e.may.is_gathered.complete_round.is_node (TakesRound-fate s.problem s.cuts (record e.node { crowd_tried = e.mark }) _ e.after e.takes))
PublishStep-same s t id seen prices (publish.NoGain x y) e = unchanged-same s t e.unchanged
PublishStep-same s t id seen prices refusal e = unchanged-same s t e.1

SettleStep-same : (s t : State) (id : BranchId) (version : ℕ) (answer : Settle) → SettleStep s id version answer t → SameDivisions s.nodes t.nodes
SettleStep-same s t id version settle.Done e = to_nodes s t _ e.becomes (SameDivisions-set s.nodes id.0 e.node _ e.is_gathered.complete_round.is_node refl)
SettleStep-same s t id version (settle.Improves x y) e = unchanged-same s t e.unchanged
SettleStep-same s t id version refusal e = unchanged-same s t e.1

CloseStep-same : (s t : State) (id : BranchId) (answer : Closing) → CloseStep s id answer t → SameDivisions s.nodes t.nodes
CloseStep-same s t id closing.Closed e = to_nodes s t _ e.becomes (closed-same s id e.node _ e.found e.is_node e.undone refl)
CloseStep-same s t id refusal e = unchanged-same s t e.1

BetterStep-same : (s t : State) (design : Design) (answer : Result Better DesignFault) → BetterStep s design answer t → SameDivisions s.nodes t.nodes
BetterStep-same s t design (Ok (better.Taken cost)) e = to_nodes s t _ e.becomes (SameDivisions-refl s.nodes)
BetterStep-same s t design (Ok (better.NotLess cost held)) e = unchanged-same s t e.unchanged
BetterStep-same s t design (Err fault) e = unchanged-same s t e.1

Divides-born : (s t : State) (id left right : BranchId) → HaveChildren s.nodes → AreBorn s.nodes → Divides s id left right t → AreBorn t.nodes
Divides-born s t id left right h born e =
    subst (λ (x : State). AreBorn x.nodes) (sym e.becomes)
    (AreBorn-divided s.nodes id.0 e.node e.division (child_of e.node (left_limit e.division.by)) (child_of e.node (right_limit e.division.by))
    e.ready.open_node.is_node e.ready.open_node.undone h born (ap (λ (x : BranchId). x.0) e.left_is ∙ e.left_next) (ap (λ (x : BranchId). x.0) e.right_is ∙ e.right_next) refl refl)

ExamineStep-born : (s t : State) (id : BranchId) (answer : Result Examined ExamineFault) → HaveChildren s.nodes → AreBorn s.nodes → ExamineStep s id answer t → AreBorn t.nodes
ExamineStep-born s t id answer h born e = by answer e
  where
    kept : SameDivisions s.nodes t.nodes → AreBorn t.nodes
    kept same = AreBorn-same s.nodes t.nodes same born

    by : (a : Result Examined ExamineFault) → ExamineStep s id a t → AreBorn t.nodes
    by (Ok examined.Cut) x = kept (to_nodes s t _ x.becomes (closed-same s id x.node _ _ x.open_node.is_node x.open_node.undone refl))
    by (Ok (examined.Divided left right)) x = Divides-born s t id left right h born x
    by (Ok (examined.Far demand)) x = kept (to_nodes s t _ x.becomes (closed-same s id x.node _ _ x.ready.open_node.is_node x.ready.open_node.undone refl))
    by (Ok examined.Overfull) x = kept (to_nodes s t _ x.becomes (closed-same s id x.node _ _ x.ready.open_node.is_node x.ready.open_node.undone refl))
    by (Ok examined.Routed) x = kept (to_nodes s t _ x.becomes (closed-same s id x.node _ _ x.ready.open_node.is_node x.ready.open_node.undone refl))
    by (Err examine_fault.OutOfMemory) x = kept (unchanged-same s t x)
    by (Err refusal) x = kept (unchanged-same s t x.1)

Step-born : (s t : State) (event : Event) (answer : Answer) → IsSound s → AreBorn s.nodes → Step s event answer t → AreBorn t.nodes
Step-born s t (Opening id) (to_opening answer) h born e = AreBorn-same s.nodes t.nodes (OpenStep-same s t id answer e) born
Step-born s t (Offering offer) (to_offering answer) h born e = AreBorn-same s.nodes t.nodes (OfferStep-same s t offer answer e) born
Step-born s t (Gathering id version) (to_gathering answer) h born e = AreBorn-same s.nodes t.nodes (GatherStep-same s t id version answer e) born
Step-born s t (Publishing id seen prices) (to_publishing answer) h born e = AreBorn-same s.nodes t.nodes (PublishStep-same s t id seen prices answer e) born
Step-born s t (Settling id version) (to_settling answer) h born e = AreBorn-same s.nodes t.nodes (SettleStep-same s t id version answer e) born
Step-born s t (Closing_of id) (to_closing answer) h born e = AreBorn-same s.nodes t.nodes (CloseStep-same s t id answer e) born
Step-born s t (Examining id) (to_examining answer) h born e = ExamineStep-born s t id answer h.family.children born e
Step-born s t (Bettering design) (to_bettering answer) h born e = AreBorn-same s.nodes t.nodes (BetterStep-same s t design answer e) born
Step-born s t event answer h born e = absurd e

Run-born : (s t : State) (entries : List Entry) → IsSound s → AreBorn s.nodes → Run s entries t → AreBorn t.nodes
Run-born s t [] h born run = subst (λ (x : State). AreBorn x.nodes) (sym run) born
Run-born s t (entry ∷ entries) h born run =
    Run-born run.0 t entries (Step-sound s run.0 entry.event entry.answer h run.1) (Step-born s run.0 entry.event entry.answer h born run.1) run.2

-- the root is nobody's child
one_node : (root : Node) → root.fate ≡ Undone → AreBorn (root ∷ [])
one_node root undone = record {
  apart = λ m d is. absurd (undivided m d is);
  parent = λ k some within. absurd (omega arith);
  only = λ k m other x y. absurd (undivided m x.0 x.1);
}
  where
    undivided : (m : ℕ) (d : Division) → division_at (root ∷ []) m ≡ Some d → ⊥
    undivided zero d is = let bad : ◌≡◌ {A = Option Division} None (Some d) = sym (ap division_by undone) ∙ is in cc
    undivided (suc m) d is = let bad : ◌≡◌ {A = Option Division} None (Some d) = is in cc

IsOpeningState-born : (p : Parts) (cuts : List Cut) (budget : ℕ) (s : State) → IsOpeningState p cuts budget s → AreBorn s.nodes
IsOpeningState-born p cuts budget s e = subst (λ (x : State). AreBorn x.nodes) (sym e.is_state) (one_node _ refl)

-- so in each state that events lead to
pub IsReachable-born : (s : State) → IsReachable s → AreBorn s.nodes
IsReachable-born s h =
    Run-born h.opening s h.entries (IsOpeningState-sound s.problem s.cuts s.budget h.opening h.is_opening) (IsOpeningState-born s.problem s.cuts s.budget h.opening h.is_opening) h.run

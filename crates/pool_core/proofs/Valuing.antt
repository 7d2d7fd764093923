-- What is read of the pool's fields at a node with a gathered round.
use Rattle.std.proofs.Common.{◌≡◌, ℕ, List, get_or, Option, Some, None, sym, ap, subst, ◌∙◌}
use Rattle.std.specs.Prelude.{IsSome, IfSome, IfNone, option_map}
use Rattle.plan_base.specs.declared.ids.BranchId.{BranchId}
use Rattle.search_machine.specs.State.{Round, Node, State, round_of}
use Rattle.cut_values.specs.Numbers.{AreNumbers}
use Rattle.search_machine.specs.Soundness.{IsSound}
use Rattle.search_view.specs.Valuing.{IsGatheredAt}
use Rattle.pool_core.proofs.TaskLaws.{has-some}
use Rattle.search_view.proofs.Reading.{sound-round, has-within, read-round, shown-value}
use Rattle.search_view.proofs.Valuing.{gathered-round, same-round}

-- a node with a gathered round has a round
pub gathered-some : (s : State) (id : BranchId) → IsGatheredAt s id → IsSome (round_of s id)
gathered-some s id h = has-some s id (gathered-round s id h)

-- the prices of a gathered round are prices of the instance
pub round-price_list : (s : State) (id : BranchId) → IsSound s → (at : IsGatheredAt s id) → AreNumbers s.problem s.cuts at.round.prices
round-price_list s id sound at = (sound-round s id sound (gathered-round s id at)).prices

-- What is read of a state

-- what a clause says of the value that is there
pub if_some : {X : Type 0} (o : Option X) (x : X) (P : X → Type 0) → o ≡ Some x → IfSome o P → P x
if_some {X = X} o x P is h = subst (λ (q : Option X). IfSome q P) is h

-- what a clause says where no value is there
pub if_none : {X : Type 0} (o : Option X) (P : Type 0) → o ≡ None → IfNone o P → P
if_none {X = X} o P is h = subst (λ (q : Option X). IfNone q P) is h

-- where no value is there, what follows from what is said holds too
pub none_then : {X : Type 0} (o : Option X) (P Q : Type 0) → (P → Q) → IfNone o P → IfNone o Q
none_then None P Q f h = f h
none_then (Some x) P Q f h = tt

-- of a value that is there, what follows from what is said of it holds too
pub some_then : {X : Type 0} (o : Option X) (P Q : X → Type 0) → ((x : X) → P x → Q x) → IfSome o P → IfSome o Q
some_then None P Q f h = tt
some_then (Some x) P Q f h = f x h

-- the prices of a round that is read
pub gathered-prices : (s : State) (id : BranchId) (at : IsGatheredAt s id) (read : Round) (prices : List ℕ) → Some read ≡ round_of s id → prices ≡ read.prices → prices ≡ at.round.prices
gathered-prices s id at read prices is same =
    let where_is = at.is_gathered.complete_round in
    same ∙ ap (λ (r : Round). r.prices) (same-round s id read at.node at.round is where_is.is_node where_is.is_round)

-- the same, where the round is shown and unwrapped at the node that is read at its place
pub read-prices : {A : Type 0} (f : A → Round) (s : State) (id : BranchId) (item : Node) (o : Option A) (x : A) (prices : List ℕ) → (at : IsGatheredAt s id) → item ≡ get_or s.nodes id.0 item
    → option_map f o ≡ item.round → o ≡ Some x → prices ≡ (f x).prices → prices ≡ at.round.prices
read-prices f s id item o x prices at read shown is same =
    let there = read-round s.nodes id.0 item (has-within s id (gathered-round s id at)) read in
    gathered-prices s id at (f x) prices (shown-value f o x item.round shown is ∙ sym there) same

-- the prices that are read of a gathered round are lawful prices and rates of the instance and its cuts
pub read-price_list : (s t : State) (id : BranchId) (read : Round) (prices : List ℕ) → IsSound s → IsGatheredAt s id → t ≡ s → Some read ≡ round_of t id → prices ≡ read.prices → AreNumbers t.problem t.cuts prices
read-price_list s t id read prices sound at same is is_prices =
    let now : prices ≡ at.round.prices = gathered-prices s id at read prices (is ∙ ap (λ (u : State). round_of u id) same) is_prices in
    subst (λ (u : State). AreNumbers u.problem u.cuts prices) (sym same) (subst (AreNumbers s.problem s.cuts) (sym now) (round-price_list s id sound at))

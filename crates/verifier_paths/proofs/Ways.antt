-- Ways: how they go on, and the simple path that is left of one where its loops are cut out.
use Rattle.std.proofs.Common.{◌≡◌, ◌≢◌, ℕ, zero, suc, ◌+◌, ◌<◌, ◌≤◌, ◌⊎◌, inl, inr, Bool, List, [], ◌∷◌, ◌++◌, length, slice_index, IsTrue, All, refl, sym, ap, subst, ◌∙◌, arith}
use Rattle.std.specs.Prelude.{⊤}
use Rattle.std.proofs.lemmas.Bool.{cases_eq}
use Rattle.std.proofs.lemmas.List.Sums.{sum_by-cons, sum_by_push}
use Rattle.std.proofs.lemmas.List.Elements.{All-nil, All-cons}
use Rattle.plan_base.specs.declared.ids.NodeId.{NodeId}
use Rattle.plan_base.specs.declared.ids.ArcId.{ArcId}
use Rattle.plan_base.specs.declared.parts.Demand.{Demand}
use Rattle.plan_base.specs.declared.parts.Parts.{Parts}
use Rattle.plan_base.specs.Arcs.{is_arc, tail_of, head_of, no_arc}
use Rattle.plan_base.specs.Places.{place_of}
use Rattle.plan_base.specs.Paths.{arc_at, node_at, IsSimplePath}
use Rattle.arc_restrict.specs.Prices.{price_of}
use Rattle.verifier_paths.specs.Labels.{IsWay}

-- a way and one arc more
pub way_on : (p : Parts) (takes : ArcId → Bool) (from mid : ℕ) (arcs : List ArcId) (a : ArcId) → IsWay p takes from mid arcs → IsTrue (takes a) → (tail_of p a).0 ≡ mid → IsWay p takes from (head_of p a).0 (arcs ++ a ∷ [])
way_on p takes from mid [] a way taken tail = (taken, tail ∙ sym way, refl)
way_on p takes from mid (b ∷ arcs) a way taken tail = (way.0, way.1, way_on p takes (head_of p b).0 mid arcs a way.2 taken tail)

-- a way that has arcs is a way and a last arc
pub record HasLast (p : Parts) (takes : ArcId → Bool) (from to : ℕ) (arcs : List ArcId) : Type 0 where
  pub front : List ArcId
  pub last : ArcId
  pub way : IsWay p takes from (tail_of p last).0 front
  pub taken : IsTrue (takes last)
  pub leads : (head_of p last).0 ≡ to
  pub is : arcs ≡ front ++ last ∷ []

-- a way that has arcs has a last one
pub has_last : (p : Parts) (takes : ArcId → Bool) (from to : ℕ) (a : ArcId) (arcs : List ArcId) → IsWay p takes from to (a ∷ arcs) → HasLast p takes from to (a ∷ arcs)
has_last p takes from to a [] way = record { front = []; last = a; way = sym way.1; taken = way.0; leads = way.2; is = refl }
has_last p takes from to a (b ∷ arcs) way =
    let rest = has_last p takes (head_of p a).0 to b arcs way.2 in
    record { front = a ∷ rest.front; last = rest.last; way = (way.0, way.1, rest.way); taken = rest.taken; leads = rest.leads; is = ap (λ (xs : List ArcId). a ∷ xs) rest.is }

-- the price of a way with one arc in front
pub price-cons : (p : Parts) (prices : List ℕ) (a : ArcId) (arcs : List ArcId) → price_of p prices (a ∷ arcs) ≡ slice_index prices (place_of p a) + price_of p prices arcs
price-cons p prices a arcs = sum_by-cons (λ (a : ArcId). slice_index prices (place_of p a)) a arcs

-- the price of a way with one arc at the end
pub price-push : (p : Parts) (prices : List ℕ) (arcs : List ArcId) (a : ArcId) → price_of p prices (arcs ++ a ∷ []) ≡ price_of p prices arcs + slice_index prices (place_of p a)
price-push p prices arcs a = sum_by_push (λ (a : ArcId). slice_index prices (place_of p a)) arcs a

-- ---- no node twice

-- no arc leads to the node
abbrev pub Avoids : Parts → ℕ → List ArcId → Type 0
Avoids p v [] = ⊤
Avoids p v (a ∷ arcs) = ((head_of p a).0 ≢ v) × Avoids p v arcs

-- arcs from a node on meet no node twice
abbrev pub MeetOnce : Parts → ℕ → List ArcId → Type 0
MeetOnce p from [] = ⊤
MeetOnce p from (a ∷ arcs) = Avoids p from (a ∷ arcs) × MeetOnce p (head_of p a).0 arcs

-- a way that meets no node twice and costs at most so much
pub record HasRoute (p : Parts) (takes : ArcId → Bool) (prices : List ℕ) (from to bound : ℕ) : Type 0 where
  pub arcs : List ArcId
  pub way : IsWay p takes from to arcs
  pub once : MeetOnce p from arcs
  pub low : price_of p prices arcs ≤ bound

-- a route avoids the node, or goes on from it as a route
from_node : (p : Parts) (takes : ArcId → Bool) (prices : List ℕ) (v from to : ℕ) (arcs : List ArcId) → IsWay p takes from to arcs → MeetOnce p from arcs → Avoids p v arcs ⊎ HasRoute p takes prices v to (price_of p prices arcs)
from_node p takes prices v from to [] way once = inl tt
from_node p takes prices v from to (a ∷ arcs) way once = elim (cases_eq (head_of p a).0 v) [
  | inl here ↦ inr (record {
    arcs = arcs;
    way = subst (λ (w : ℕ). IsWay p takes w to arcs) here way.2;
    once = subst (λ (w : ℕ). MeetOnce p w arcs) here once.1;
    low = omega (arith, price-cons p prices a arcs);
  })
  | inr other ↦ elim (from_node p takes prices v (head_of p a).0 to arcs way.2 once.1) [
    | inl avoids ↦ inl (other, avoids)
    | inr r ↦ inr (record { arcs = r.arcs; way = r.way; once = r.once; low = omega (arith, r.low, price-cons p prices a arcs) })
  ]
]

-- of each way there is a route that costs no more
pub route_of_way : (p : Parts) (takes : ArcId → Bool) (prices : List ℕ) (from to : ℕ) (arcs : List ArcId) → IsWay p takes from to arcs → HasRoute p takes prices from to (price_of p prices arcs)
route_of_way p takes prices from to [] way = record { arcs = []; way = way; once = tt; low = omega arith }
route_of_way p takes prices from to (a ∷ arcs) way =
    let r = route_of_way p takes prices (head_of p a).0 to arcs way.2 in
    elim (cases_eq (head_of p a).0 from) [
      | inl back ↦ record {
        arcs = r.arcs;
        way = subst (λ (w : ℕ). IsWay p takes w to r.arcs) back r.way;
        once = subst (λ (w : ℕ). MeetOnce p w r.arcs) back r.once;
        low = omega (arith, r.low, price-cons p prices a arcs);
      }
      | inr other ↦ elim (from_node p takes prices from (head_of p a).0 to r.arcs r.way r.once) [
        | inl avoids ↦ record { arcs = a ∷ r.arcs; way = (way.0, way.1, r.way); once = ((other, avoids), r.once); low = omega (arith, r.low, price-cons p prices a arcs, price-cons p prices a r.arcs) }
        | inr q ↦ record { arcs = q.arcs; way = q.way; once = q.once; low = omega (arith, q.low, r.low, price-cons p prices a arcs) }
      ]
    ]

-- ---- by places

shift : (p : Parts) (s : NodeId) (a : ArcId) (arcs : List ArcId) (i : ℕ) → node_at p (head_of p a) arcs i ≡ node_at p s (a ∷ arcs) (suc i)
shift p s a arcs zero = refl
shift p s a arcs (suc i) = refl

taken_at : (p : Parts) (takes : ArcId → Bool) (from to : ℕ) (arcs : List ArcId) → IsWay p takes from to arcs → (i : ℕ) → i < length arcs → IsTrue (takes (arc_at arcs i))
taken_at p takes from to [] way i within = absurd (omega (arith, within))
taken_at p takes from to (a ∷ arcs) way zero within = way.0
taken_at p takes from to (a ∷ arcs) way (suc i) within = taken_at p takes (head_of p a).0 to arcs way.2 i (omega (arith, within))

tail_at : (p : Parts) (takes : ArcId → Bool) (s : NodeId) (to : ℕ) (arcs : List ArcId) → IsWay p takes s.0 to arcs → (i : ℕ) → i < length arcs → (tail_of p (arc_at arcs i)).0 ≡ node_at p s arcs i
tail_at p takes s to [] way i within = absurd (omega (arith, within))
tail_at p takes s to (a ∷ arcs) way zero within = way.1
tail_at p takes s to (a ∷ arcs) way (suc i) within = tail_at p takes (head_of p a) to arcs way.2 i (omega (arith, within)) ∙ shift p s a arcs i

end_at : (p : Parts) (takes : ArcId → Bool) (s : NodeId) (to : ℕ) (arcs : List ArcId) → IsWay p takes s.0 to arcs → node_at p s arcs (length arcs) ≡ to
end_at p takes s to [] way = way
end_at p takes s to (a ∷ arcs) way = sym (shift p s a arcs (length arcs)) ∙ end_at p takes (head_of p a) to arcs way.2

avoids_at : (p : Parts) (v : ℕ) (arcs : List ArcId) → Avoids p v arcs → (i : ℕ) → i < length arcs → (head_of p (arc_at arcs i)).0 ≢ v
avoids_at p v [] h i within = absurd (omega (arith, within))
avoids_at p v (a ∷ arcs) h zero within = h.0
avoids_at p v (a ∷ arcs) h (suc i) within = avoids_at p v arcs h.1 i (omega (arith, within))

differ_at : (p : Parts) (s : NodeId) (arcs : List ArcId) → MeetOnce p s.0 arcs → (i j : ℕ) → i < j → j ≤ length arcs → node_at p s arcs i ≢ node_at p s arcs j
differ_at p s [] once i j before within same = absurd (omega (arith, before, within))
differ_at p s (a ∷ arcs) once i zero before within same = absurd (omega (arith, before))
differ_at p s (a ∷ arcs) once zero (suc j) before within same = avoids_at p s.0 (a ∷ arcs) once.0 j (omega (arith, within)) (sym same)
differ_at p s (a ∷ arcs) once (suc i) (suc j) before within same = differ_at p (head_of p a) arcs once.1 i j (omega (arith, before)) (omega (arith, within)) (shift p s a arcs i ∙ same ∙ sym (shift p s a arcs j))

-- a way that meets no node twice is a simple path
pub simple_of_way : (p : Parts) (takes : ArcId → Bool) (k : Demand) (arcs : List ArcId) → ((a : ArcId) → IsTrue (takes a) → IsTrue (is_arc p a)) → IsWay p takes k.source.0 k.target.0 arcs → MeetOnce p k.source.0 arcs → IsSimplePath p k arcs
simple_of_way p takes k arcs are way once = record {
  are_arcs = λ i within. are (arc_at arcs i) (taken_at p takes k.source.0 k.target.0 arcs way i within);
  goes_on = tail_at p takes k.source k.target.0 arcs way;
  no_node_twice = differ_at p k.source arcs once;
  ends_at_target = end_at p takes k.source k.target.0 arcs way;
}

-- what holds of each arc of a way
pub way-all : (p : Parts) (takes : ArcId → Bool) (from to : ℕ) (arcs : List ArcId) → IsWay p takes from to arcs → All (λ a. IsTrue (takes a)) arcs
way-all p takes from to [] way = All-nil (λ a. IsTrue (takes a))
way-all p takes from to (a ∷ arcs) way = All-cons (λ a. IsTrue (takes a)) a arcs way.0 (way-all p takes (head_of p a).0 to arcs way.2)

way_from : (p : Parts) (takes : ArcId → Bool) (s : NodeId) (to : ℕ) (arcs : List ArcId) → ((i : ℕ) → i < length arcs → IsTrue (takes (arc_at arcs i))) → ((i : ℕ) → i < length arcs → (tail_of p (arc_at arcs i)).0 ≡ node_at p s arcs i) → node_at p s arcs (length arcs) ≡ to → IsWay p takes s.0 to arcs
way_from p takes s to [] taken tails ends = ends
way_from p takes s to (a ∷ arcs) taken tails ends = (
  taken 0 (omega arith),
  tails 0 (omega arith),
  way_from p takes (head_of p a) to arcs
      (λ i within. taken (suc i) (omega (arith, within)))
      (λ i within. tails (suc i) (omega (arith, within)) ∙ sym (shift p s a arcs i))
      (shift p s a arcs (length arcs) ∙ ends),
)

-- a simple path of arcs that may be taken is a way
pub way_of_simple : (p : Parts) (takes : ArcId → Bool) (k : Demand) (arcs : List ArcId) → IsSimplePath p k arcs → All (λ a. IsTrue (takes a)) arcs → IsWay p takes k.source.0 k.target.0 arcs
way_of_simple p takes k arcs simple taken = way_from p takes k.source k.target.0 arcs (λ i within. taken i no_arc within) simple.goes_on simple.ends_at_target

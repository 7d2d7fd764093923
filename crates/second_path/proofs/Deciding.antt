-- What is held after each demand.
use Rattle.std.proofs.Common.{◌≡◌, ℕ, ◌<◌, ◌+◌, inl, inr, List, [], ◌∷◌, ◌++◌, length, Option, Some, None, IfSome, slice_index_or, sym, ap, subst, ◌∙◌, arith}
use Rattle.std.proofs.lemmas.List.{get_or_append_left, get_or_push, length_push}
use Rattle.plan_base.specs.declared.ids.ArcId.{ArcId}
use Rattle.plan_base.specs.declared.parts.Parts.{Parts}
use Rattle.plan_base.specs.Arcs.{demand_at}
use Rattle.arc_restrict.specs.Restrictions.{Forbidden, IsPermittedPath, IsOnlyPath}
use Rattle.second_path.specs.declared.determining.Held.{Held}
use Rattle.second_path.specs.Others.{IsOtherPath, HasPath, Precedes, IsFirstTwo}
use Rattle.second_path.proofs.Trees.{last_or_before}
use Rattle.second_path.specs.Searching.{ArePaths, IsHeld, IsHeldTo}

-- the next demand has one path
pub held_only : (p : Parts) (r : Forbidden) (paths : List (List ArcId)) (n : ℕ) (held : Option Held) → IsOnlyPath p r n (slice_index_or paths n []) → IsHeldTo p r paths n held → IsHeldTo p r paths (n + 1) held
held_only p r paths n None only h = λ m below. elim (last_or_before n m below) [
  | inl earlier ↦ h m earlier
  | inr is ↦ subst (λ i. IsOnlyPath p r i (slice_index_or paths i [])) (sym is) only
]
held_only p r paths n (Some held) only h = record {
  within = omega (arith, h.within);
  other = h.other;
  before = λ m below first. elim (last_or_before n m below) [
    | inl earlier ↦ h.before m earlier first
    | inr is ↦ subst (λ i. IsOnlyPath p r i (slice_index_or paths i [])) (sym is) only
  ];
}

-- the next demand has another path too, and a larger load than what is held
pub held_other : (p : Parts) (r : Forbidden) (paths : List (List ArcId)) (n : ℕ) (held : Option Held) (found : Held) → found.demand.0 ≡ n → IsOtherPath p r n (slice_index_or paths n []) found.other
    → IfSome held (λ old. (demand_at p old.demand.0).load < (demand_at p n).load) → IsHeldTo p r paths n held → IsHeld p r paths (n + 1) found
held_other p r paths n held found is other larger h = record {
  within = omega (arith, is);
  other = rw is other;
  before = λ m below first. elim (last_or_before n m below) [
    | inl earlier ↦ only_before held larger h m earlier (rw is at first)
    | inr here ↦ absurd (elim first [
      | inl more ↦ omega (arith, ap (λ (k : ℕ). (demand_at p k).load) (here ∙ sym is), more)
      | inr same ↦ omega (arith, same.1, here, is)
    ])
  ];
}
  where
    only_before : (old : Option Held) → IfSome old (λ h. (demand_at p h.demand.0).load < (demand_at p n).load) → IsHeldTo p r paths n old → (m : ℕ) → m < n → Precedes p m n → IsOnlyPath p r m (slice_index_or paths m [])
    only_before None larger h m below first = h m below
    only_before (Some old) larger h m below first = h.before m below (inl (elim first [
      | inl more ↦ omega (arith, more, larger)
      | inr same ↦ omega (arith, same.0, larger)
    ]))

-- ---- the answers

-- where a path is listed for each of the first demands, each of them has one
pub has_paths : (p : Parts) (r : Forbidden) (n : ℕ) (paths : List (List ArcId)) → ArePaths p r n paths → (m : ℕ) → m < n → HasPath p r m
has_paths p r n paths h m below = record { path = slice_index_or paths m []; permitted = h.permitted m below }

-- what is held at the end is the first demand that has two paths, with both of them
pub is_two : (p : Parts) (r : Forbidden) (paths : List (List ArcId)) (held : Held) (first second : List ArcId) → ArePaths p r (length p.demands) paths
    → IsHeld p r paths (length p.demands) held → IsPermittedPath p r held.demand.0 first → IsOtherPath p r held.demand.0 first second → IsFirstTwo p r held.demand.0 first second
is_two p r paths held first second h is_held permitted other = record {
  is_demand = is_held.within;
  permitted = permitted;
  other = other;
  all = has_paths p r (length p.demands) paths h;
  others = λ m below before. (slice_index_or paths m [], is_held.before m below before);
}

-- no demand needs no path
pub no_paths : (p : Parts) (r : Forbidden) (paths : List (List ArcId)) → paths ≡ [] → ArePaths p r 0 paths
no_paths p r paths none = record { count = ap length none; permitted = λ k below. absurd (omega (arith, below)) }

-- a path of one demand more
pub paths_more : (p : Parts) (r : Forbidden) (n : ℕ) (paths : List (List ArcId)) (path : List ArcId) → ArePaths p r n paths → IsPermittedPath p r n path → ArePaths p r (n + 1) (paths ++ path ∷ [])
paths_more p r n paths path are permitted = record {
  count = omega (arith, are.count, length_push paths path);
  permitted = λ k below. elim (last_or_before n k below) [
    | inl before ↦ subst (IsPermittedPath p r k) (sym (get_or_append_left paths (path ∷ []) [] k (omega (arith, before, are.count)))) (are.permitted k before)
    | inr here ↦ rw here (subst (IsPermittedPath p r n) (sym (get_or_push paths path [] n are.count)) permitted)
  ];
}

use Rattle.std.proofs.Common.{◌≡◌, ◌≢◌, ℕ, ◌==◌, true, false, Bool, List, [], ◌∷◌, ◌++◌, ap, sym, ◌∙◌, arith, if◌then◌else◌, eq-eqb, ne_eqb}
use Rattle.ticket_turns.specs.declared.view.Entry.{Entry}
use Rattle.ticket_turns.specs.declared.view.Role.{Role}
use Rattle.ticket_turns.specs.declared.view.Role.TheVariants.{Maker, Caller, Guest}
use Rattle.ticket_turns.specs.Histories.{calls_by, OwnCalls, IsCaller, number_of}
use Rattle.ticket_turns.specs.Rules.{RolesApart}

-- Whose calls stand in a history that grows by one.

module _ {C : Type 0} where
  -- the caller's own
  pub calls_own : (n : ℕ) (xs : List (Entry C)) (e : Entry C) → e.by ≡ n → calls_by n (xs ++ e ∷ []) ≡ calls_by n xs ++ e ∷ []
  calls_own n [] e is = ap (λ b. if b then e ∷ [] else []) (eq-eqb e.by n is)
  calls_own n (x ∷ xs) e is = by_case (calls_own n xs e is) (x.by == n)
    where
      by_case : calls_by n (xs ++ e ∷ []) ≡ calls_by n xs ++ e ∷ [] → (b : Bool) → (if b then x ∷ calls_by n (xs ++ e ∷ []) else calls_by n (xs ++ e ∷ [])) ≡ (if b then x ∷ calls_by n xs else calls_by n xs) ++ e ∷ []
      by_case r true = ap (λ ys. x ∷ ys) r
      by_case r false = r

  -- another's
  pub calls_other : (n : ℕ) (xs : List (Entry C)) (e : Entry C) → e.by ≢ n → calls_by n (xs ++ e ∷ []) ≡ calls_by n xs
  calls_other n [] e ne = ap (λ b. if b then e ∷ [] else []) (ne_eqb e.by n ne)
  calls_other n (x ∷ xs) e ne = by_case (calls_other n xs e ne) (x.by == n)
    where
      by_case : calls_by n (xs ++ e ∷ []) ≡ calls_by n xs → (b : Bool) → (if b then x ∷ calls_by n (xs ++ e ∷ []) else calls_by n (xs ++ e ∷ [])) ≡ (if b then x ∷ calls_by n xs else calls_by n xs)
      by_case r true = ap (λ ys. x ∷ ys) r
      by_case r false = r

  -- whoever adds a call has it among its own
  pub own_more : (history : List (Entry C)) (e : Entry C) (role : Role) (mine : List (Entry C)) → IsCaller role → e.by ≡ number_of role → OwnCalls history role mine → OwnCalls (history ++ e ∷ []) role (mine ++ e ∷ [])
  own_more history e (Maker m) mine is by own = absurd is
  own_more history e (Caller n) mine is by own = calls_own n history e by ∙ ap (λ xs. xs ++ e ∷ []) own
  own_more history e Guest mine is by own = absurd is

  -- the others' calls stay as they are
  pub own_other : (history : List (Entry C)) (e : Entry C) (adder role : Role) (mine : List (Entry C)) → IsCaller adder → e.by ≡ number_of adder → RolesApart role adder → OwnCalls history role mine → OwnCalls (history ++ e ∷ []) role mine
  own_other history e (Maker k) role mine is by apart own = absurd is
  own_other history e (Caller n) (Maker m) mine is by apart own = λ k le. calls_other k history e (λ same. omega arith) ∙ own k le
  own_other history e (Caller n) (Caller k) mine is by apart own = calls_other k history e (λ same. apart (sym same ∙ by)) ∙ own
  own_other history e (Caller n) Guest mine is by apart own = tt
  own_other history e Guest role mine is by apart own = absurd is

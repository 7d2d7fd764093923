-- The steps of all links.
use Rattle.std.proofs.Common.{◌≡◌, ℕ, ◌+◌, ◌<◌, inl, inr, List, [], ◌∷◌, ◌++◌, length, slice_index_or, sym, ap, ◌∙◌, arith}
use Rattle.std.proofs.Math.Seq.{get_or-append_seam}
use Rattle.std.proofs.lemmas.List.{length-append, get_or_append_left}
use Rattle.plan_base.specs.declared.parts.CountLaw.{CountLaw}
use Rattle.plan_base.specs.declared.parts.Link.{Link}
use Rattle.plan_base.specs.declared.parts.Parts.{Parts}
use Rattle.plan_base.specs.Facts.{total_load, top_load}
use Rattle.plan_base.specs.Arcs.{link_at}
use Rattle.link_steps.specs.declared.step.Step.{Step}
use Rattle.link_steps.specs.declared.ends.End.{End}
use Rattle.link_steps.specs.Costs.{AreLeastCountsOn}
use Rattle.link_steps.specs.Steps.{step_at, AreSteps, AreAllSteps, AreBestEnds, AreTablesTo, IsMadeOf}
use Rattle.link_steps.proofs.Reached.{IsFirstReaching, cost-le}
use Rattle.link_steps.proofs.Order.{before_or_last}

-- one link more
pub AreTablesTo-push : (p : Parts) (tables : List (List Step)) (ends : List (List End)) (steps : List Step) (best : List End) (n : ℕ) → AreTablesTo p n tables ends
    → AreAllSteps p.law (total_load p) (link_at p n) steps → AreBestEnds steps (top_load p (link_at p n)) (length steps) best → AreTablesTo p (n + 1) (tables ++ steps ∷ []) (ends ++ best ∷ [])
AreTablesTo-push p tables ends steps best n before are_all are_best =
    let table_count = before.table_count in
    let end_count = before.end_count in
    let old_table : (e : ℕ) → e < n → slice_index_or (tables ++ steps ∷ []) e [] ≡ slice_index_or tables e [] = λ e old. get_or_append_left tables (steps ∷ []) [] e (omega arith) in
    let old_ends : (e : ℕ) → e < n → slice_index_or (ends ++ best ∷ []) e [] ≡ slice_index_or ends e [] = λ e old. get_or_append_left ends (best ∷ []) [] e (omega arith) in
    let new_table : slice_index_or (tables ++ steps ∷ []) n [] ≡ steps = ap (λ (k : ℕ). slice_index_or (tables ++ steps ∷ []) k []) (sym table_count) ∙ get_or-append_seam tables steps [] [] in
    let new_ends : slice_index_or (ends ++ best ∷ []) n [] ≡ best = ap (λ (k : ℕ). slice_index_or (ends ++ best ∷ []) k []) (sym end_count) ∙ get_or-append_seam ends best [] [] in
    record {
      table_count = omega (arith, length-append tables (steps ∷ []));
      end_count = omega (arith, length-append ends (best ∷ []));
      each = λ e below.
          elim (before_or_last e n below) [
            | inl old ↦ rw (old_table e old) (before.each e old)
            | inr new ↦ rw (new, new_table) are_all
          ];
      best = λ e below.
          elim (before_or_last e n below) [
            | inl old ↦ rw (old_table e old, old_ends e old) (before.best e old)
            | inr new ↦ rw (new, new_table, new_ends) are_best
          ];
    }

-- counts that carry a load at the cost of the first step that reaches it are the least
pub AreLeastCounts-made : {law : CountLaw} (total : ℕ) (l : Link) (steps : List Step) (load place : ℕ) (counts : List ℕ) → AreSteps law total l steps → IsFirstReaching steps load place → IsMadeOf law l (step_at steps place) load counts → AreLeastCountsOn law l load counts
AreLeastCounts-made total l steps load place counts are first made =
    record {
      carries = made.carries;
      least = λ others carries. omega (arith, cost-le total l steps load place others are first carries, made.cost);
    }

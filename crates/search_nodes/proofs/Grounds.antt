-- The kept regions after a change of one node that leaves its limits and its fate.
use Rattle.std.proofs.Common.{◌≡◌, ℕ, ◌<◌, inl, inr, List, length, set, get_or, Option, Some, slice_get, sym, ap, subst, ◌∙◌, length-set}
use Rattle.std.proofs.lemmas.Option.{slice_get-get_or}
use Rattle.plan_base.specs.declared.parts.Parts.{Parts}
use Rattle.proof_tree.specs.Regions.{Region}
use Rattle.branch_tree.specs.declared.node.Fate.{Fate}
use Rattle.search_machine.specs.State.{Node, region_by, region_of}
use Rattle.search_nodes.specs.Grounds.{Kept, IsGroundOf, HasGrounds}
use Rattle.search_machine.proofs.Lists.{slice_get-set_cases}

-- the kept regions stay right when one node changes and keeps its limits and its fate
pub HasGrounds-set : (p : Parts) (nodes : List Node) (grounds : List (Option Kept)) (n : ℕ) (item new : Node) → n < length nodes → item ≡ get_or nodes n item
    → new.limits ≡ item.limits → new.fate ≡ item.fate → HasGrounds p nodes grounds → HasGrounds p (set nodes n new) grounds
HasGrounds-set p nodes grounds n item new within read limits fate h = record {
  count = h.count ∙ sym (length-set nodes n new);
  each = λ m node is. elim (slice_get-set_cases nodes n m new node is) [
    | inl w ↦
        let held : slice_get nodes n ≡ Some item = slice_get-get_or nodes n item within ∙ ap (λ (x : Node). Some x) (sym read) in
        let g = h.each n item held in
        let same_fate : node.fate ≡ item.fate = ap (λ (x : Node). x.fate) w.1 ∙ fate in
        let same_region : region_of p node ≡ region_of p item = ap (λ (x : Node). region_of p x) w.1 ∙ ap (region_by p) limits in (
          g.0,
          subst (λ (i : ℕ). slice_get grounds i ≡ Some g.0) (sym w.0) g.1,
          subst (λ (f : Fate). IsGroundOf p (region_of p node) f g.0) (sym same_fate)
              (subst (λ (r : Region). IsGroundOf p r item.fate g.0) (sym same_region) g.2),
        )
    | inr w ↦ h.each m node w.1
  ];
}

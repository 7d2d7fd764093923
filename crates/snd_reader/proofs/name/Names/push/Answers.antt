use Rattle.std.proofs.Common.{◌≡◌, ◌++◌, ◌∷◌, [], sym, ap, subst, ◌∙◌, List, ℕ, Vec, Global, nat_eq, false}
use Rattle.std.specs.List.{list_any}
use Rattle.std.specs.Cmp.Lexicographic.{pointwise}
use Rattle.indexmap.specs.IndexSet.{keys}
use Rattle.snd_reader.specs.Names.{is_among}
use Rattle.snd_reader.proofs.NameSets.{any_viewed, added}
use Rattle.snd_reader.proofs.name.Names.push.Goals as goal

pub returns : goal.returns
returns c =
    let name = c.args.name.now in
    let set = c.self.inside.names in
    let fresh = λ (bytes : List ℕ). list_any (λ (n : Vec ℕ Global). pointwise nat_eq bytes n.items) (keys set) ≡ false in
    let none : fresh name = sym (any_viewed (λ (n : Vec ℕ Global). n.items) (λ (other : List ℕ). pointwise nat_eq name other) (keys set)) ∙ ap (λ (names : List (List ℕ)). is_among names name) c.self.view_is ∙ c.requires in
    added (λ (n : Vec ℕ Global). n.items) (λ (a b : Vec ℕ Global). pointwise nat_eq a.items b.items) (keys set) (keys c.insert_full.new.self) c.in_ok-from_slice.field-0 name
    (subst fresh (sym c.in_ok-from_slice.ensures.items) none) c.in_ok-insert_full.ensures.keys c.in_ok-from_slice.ensures.items
    ∙ ap (λ (names : List (List ℕ)). names ++ name ∷ []) c.self.view_is

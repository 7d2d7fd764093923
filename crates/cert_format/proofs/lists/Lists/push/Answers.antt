use Rattle.std.proofs.Common.{◌≡◌, ◌++◌, ◌∷◌, [], sym, ap, ◌∙◌, List, ℕ, Vec, Global, nat_eq, false}
use Rattle.std.specs.List.{list_any}
use Rattle.std.specs.Cmp.Lexicographic.{pointwise}
use Rattle.indexmap.specs.IndexSet.{keys}
use Rattle.cert_format.specs.Lists.{is_among}
use Rattle.cert_format.proofs.ListSets.{any_viewed, added}
use Rattle.cert_format.proofs.lists.Lists.push.Goals as goal

pub returns : goal.returns
returns c =
    let list = c.args.list in
    let set = c.self.inside.lists in
    let none : list_any (λ (n : Vec ℕ Global). pointwise nat_eq list.items n.items) (keys set) ≡ false =
    sym (any_viewed (λ (n : Vec ℕ Global). n.items) (λ (other : List ℕ). pointwise nat_eq list.items other) (keys set))
    ∙ ap (λ (lists : List (List ℕ)). is_among lists list.items) c.self.view_is ∙ c.requires in
    added (λ (n : Vec ℕ Global). n.items) (λ (a b : Vec ℕ Global). pointwise nat_eq a.items b.items) (keys set) (keys c.insert.new.self) list none c.in_ok-insert.ensures.keys
    ∙ ap (λ (lists : List (List ℕ)). lists ++ list.items ∷ []) c.self.view_is

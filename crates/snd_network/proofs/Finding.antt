-- Ends that are looked up.
use Rattle.std.proofs.Common.{◌≡◌, ℕ, Bool, true, false, List, [], ◌∷◌, ◌++◌, length, Option, Some, None, refl, sym, ap, subst, ◌∙◌}
use Rattle.std.specs.Prelude.{is_some, if◌then◌else◌}
use Rattle.std.proofs.lemmas.List.{append-nil, nil_from_length}
use Rattle.std.specs.Option.{option_map}
use Rattle.plan_base.specs.declared.ids.NodeId.{NodeId}
use Rattle.snd_network.specs.declared.file.NodeRecord.{NodeRecord}
use Rattle.snd_network.specs.declared.file.LinkRecord.{LinkRecord}
use Rattle.snd_network.specs.declared.file.DemandRecord.{DemandRecord}
use Rattle.snd_network.specs.declared.file.NetworkFile.{NetworkFile}
use Rattle.snd_network.specs.declared.draft.End.{End}
use Rattle.snd_network.specs.declared.draft.LinkDraft.{LinkDraft}
use Rattle.snd_network.specs.declared.draft.DemandDraft.{DemandDraft}
use Rattle.snd_network.specs.declared.draft.Named.{Named}
use Rattle.snd_network.specs.declared.draft.Table.{Table}
use Rattle.snd_network.specs.declared.draft.Draft.{Draft}
use Rattle.snd_reader.specs.declared.fault.TextFault.{TextFault}
use Rattle.snd_reader.specs.declared.fault.TextFault.TheVariants.{Unknown, OutOfMemory}
use Rattle.snd_network.specs.Steps.{IsUnknown}
use Rattle.snd_reader.specs.Names.{number_of}
use Rattle.snd_network.specs.Ends.{node_id, IsNode, IsLinkOf, IsDemandOf, AreAllOf, IsFileOf, names_of, rows_of, ends_of, link_ends, demand_ends, all_ends, first_unknown}

-- ---- ends that are all known

known : (names : List (List ℕ)) (e : End) (n : NodeId) → IsNode names e n → is_some (number_of names e.name) ≡ true
known names e n h = by (number_of names e.name) h
  where
    by : (o : Option ℕ) → option_map node_id o ≡ Some n → is_some o ≡ true
    by (Some x) h = refl
    by None h = absurd cc

-- an end that is a node is passed over in the search for the first unknown end
pub first_known : (names : List (List ℕ)) (e : End) (es : List End) (n : NodeId) → IsNode names e n → first_unknown names (e ∷ es) ≡ first_unknown names es
first_known names e es n h = rw (known names e n h) refl

-- known ends are passed over in the search for the first unknown end
pub known-behind : (names : List (List ℕ)) (es more : List End) → first_unknown names es ≡ None → first_unknown names (es ++ more) ≡ first_unknown names more
known-behind names [] more h = refl
known-behind names (e ∷ es) more h = by (is_some (number_of names e.name)) (λ k. known-behind names es more k) h
  where
    by : (b : Bool) → (first_unknown names es ≡ None → first_unknown names (es ++ more) ≡ first_unknown names more) → (if b then first_unknown names es else Some e.at) ≡ None → (if b then first_unknown names (es ++ more) else Some e.at) ≡ first_unknown names more
    by true later h = later h
    by false later h = absurd cc

-- the two ends of a link or demand are known where they are nodes
pub two_known : (names : List (List ℕ)) (d e : End) (m n : NodeId) → IsNode names d m → IsNode names e n → first_unknown names (d ∷ e ∷ []) ≡ None
two_known names d e m n h k = first_known names d (e ∷ []) m h ∙ first_known names e [] n k

ends-known : {T R : Type 0} (two : T → End × End) (names : List (List ℕ)) (Is : Named T → R → Type 0) → ((x : Named T) (r : R) → Is x r → first_unknown names (ends_of two (x ∷ [])) ≡ None)
    → (xs : List (Named T)) (rs : List R) → AreAllOf Is xs rs → first_unknown names (ends_of two xs) ≡ None
ends-known two names Is one [] rs h = refl
ends-known two names Is one (x ∷ xs) [] h = absurd h
ends-known two names Is one (x ∷ xs) (r ∷ rs) h = known-behind names (ends_of two (x ∷ [])) (ends_of two xs) (one x r h.0) ∙ ends-known two names Is one xs rs h.1

-- a file leaves no end unknown
pub none_unknown : (d : Draft) (file : NetworkFile) → IsFileOf d file → first_unknown (names_of d.nodes) (all_ends d) ≡ None
none_unknown d file h =
    let names = names_of d.nodes in
    known-behind names (ends_of link_ends (rows_of d.links)) (ends_of demand_ends (rows_of d.demands))
    (ends-known link_ends names (IsLinkOf names) (λ l r k. two_known names l.part.source l.part.target r.source r.target k.source k.target) (rows_of d.links) file.links h.links)
    ∙ ends-known demand_ends names (IsDemandOf names) (λ l r k. two_known names l.part.source l.part.target r.source r.target k.source k.target) (rows_of d.demands) file.demands h.demands

-- ---- one file

some-same : (a b : NodeId) (o : Option NodeId) → o ≡ Some a → o ≡ Some b → a ≡ b
some-same a b o h k = (let e : Some a ≡ Some b = sym h ∙ k in cc)

one-node : (names : List (List ℕ)) (e : End) (a b : NodeId) → IsNode names e a → IsNode names e b → a ≡ b
one-node names e a b h k = some-same a b (option_map node_id (number_of names e.name)) h k

abbrev link-of : List ℕ → NodeId → NodeId → ℕ → ℕ → ℕ → ℕ → List (ℕ × ℕ) → LinkRecord
link-of name source target pre pre_cost routing setup modules = record { name = name; source = source; target = target; pre = pre; pre_cost = pre_cost; routing = routing; setup = setup; modules = modules }

one-link : (names : List (List ℕ)) (l : Named LinkDraft) (a b : LinkRecord) → IsLinkOf names l a → IsLinkOf names l b → a ≡ b
one-link names l a b h k =
    let source = one-node names l.part.source a.source b.source h.source k.source in
    let target = one-node names l.part.target a.target b.target h.target k.target in
    let same : link-of a.name a.source a.target a.pre a.pre_cost a.routing a.setup a.modules ≡ link-of b.name b.source b.target b.pre b.pre_cost b.routing b.setup b.modules =
    rw (h.name ∙ sym k.name, source, target, h.pre ∙ sym k.pre, h.pre_cost ∙ sym k.pre_cost, h.routing ∙ sym k.routing, h.setup ∙ sym k.setup, h.modules ∙ sym k.modules) refl in
    same

abbrev demand-of : List ℕ → NodeId → NodeId → ℕ → ℕ → Option ℕ → DemandRecord
demand-of name source target unit value hops = record { name = name; source = source; target = target; unit = unit; value = value; hops = hops }

one-demand : (names : List (List ℕ)) (d : Named DemandDraft) (a b : DemandRecord) → IsDemandOf names d a → IsDemandOf names d b → a ≡ b
one-demand names d a b h k =
    let source = one-node names d.part.source a.source b.source h.source k.source in
    let target = one-node names d.part.target a.target b.target h.target k.target in
    let same : demand-of a.name a.source a.target a.unit a.value a.hops ≡ demand-of b.name b.source b.target b.unit b.value b.hops =
    rw (h.name ∙ sym k.name, source, target, h.unit ∙ sym k.unit, h.value ∙ sym k.value, h.hops ∙ sym k.hops) refl in
    same

one-list : {A B : Type 0} (Is : A → B → Type 0) → ((x : A) (y z : B) → Is x y → Is x z → y ≡ z) → (xs : List A) (ys zs : List B) → AreAllOf Is xs ys → AreAllOf Is xs zs → ys ≡ zs
one-list Is one [] [] [] h k = refl
one-list Is one [] [] (z ∷ zs) h k = absurd k
one-list Is one [] (y ∷ ys) zs h k = absurd h
one-list Is one (x ∷ xs) [] zs h k = absurd h
one-list Is one (x ∷ xs) (y ∷ ys) [] h k = absurd k
one-list Is one (x ∷ xs) (y ∷ ys) (z ∷ zs) h k =
    let head : y ≡ z = one x y z h.0 k.0 in
    let tail : ys ≡ zs = one-list Is one xs ys zs h.1 k.1 in
    cc

abbrev file-of : List NodeRecord → List LinkRecord → List DemandRecord → NetworkFile
file-of nodes links demands = record { nodes = nodes; links = links; demands = demands }

-- sections are one file
pub one_file_of : (d : Draft) (a b : NetworkFile) → IsFileOf d a → IsFileOf d b → a ≡ b
one_file_of d a b h k =
    let nodes : a.nodes ≡ b.nodes = h.nodes ∙ sym k.nodes in
    let links : a.links ≡ b.links = one-list (IsLinkOf (names_of d.nodes)) (one-link (names_of d.nodes)) (rows_of d.links) a.links b.links h.links k.links in
    let demands : a.demands ≡ b.demands = one-list (IsDemandOf (names_of d.nodes)) (one-demand (names_of d.nodes)) (rows_of d.demands) a.demands b.demands h.demands k.demands in
    let same : file-of a.nodes a.links a.demands ≡ file-of b.nodes b.links b.demands = rw (nodes, links, demands) refl in
    same

-- ---- lists that are looked up one by one

-- lists that agree one by one in order still do with one agreeing pair more at their ends
pub all-push : {A B : Type 0} (Is : A → B → Type 0) (xs : List A) (ys : List B) (x : A) (y : B) → AreAllOf Is xs ys → Is x y → AreAllOf Is (xs ++ x ∷ []) (ys ++ y ∷ [])
all-push Is [] [] x y h k = (k, tt)
all-push Is [] (z ∷ ys) x y h k = absurd h
all-push Is (z ∷ xs) [] x y h k = absurd h
all-push Is (z ∷ xs) (w ∷ ys) x y h k = (h.0, all-push Is xs ys x y h.1 k)

-- what is unknown among the first ends is unknown among more
pub unknown-more : (names : List (List ℕ)) (es more : List End) (at : ℕ) → first_unknown names es ≡ Some at → first_unknown names (es ++ more) ≡ Some at
unknown-more names [] more at h = absurd cc
unknown-more names (e ∷ es) more at h = by (is_some (number_of names e.name)) (λ k. unknown-more names es more at k) h
  where
    by : (b : Bool) → (first_unknown names es ≡ Some at → first_unknown names (es ++ more) ≡ Some at) → (if b then first_unknown names es else Some e.at) ≡ Some at → (if b then first_unknown names (es ++ more) else Some e.at) ≡ Some at
    by true later h = later h
    by false later h = h

-- the ends of items and of more items
pub ends-append : {T : Type 0} (two : T → End × End) (xs ys : List (Named T)) → ends_of two (xs ++ ys) ≡ ends_of two xs ++ ends_of two ys
ends-append two [] ys = refl
ends-append two (x ∷ xs) ys = ap (λ (es : List End). (two x.part).0 ∷ (two x.part).1 ∷ es) (ends-append two xs ys)

-- a fault of looking up ends is one of others, where their first unknown end is the same
pub unknown_by : (names : List (List ℕ)) (es fs : List End) (f : TextFault) → ((at : ℕ) → first_unknown names es ≡ Some at → first_unknown names fs ≡ Some at) → IsUnknown names es f → IsUnknown names fs f
unknown_by names es fs (Unknown at) same u = same at u
unknown_by names es fs OutOfMemory same u = tt
unknown_by names es fs f same u = absurd u

-- a fault of looking up some ends is also one with more ends behind them
pub more_unknown : (names : List (List ℕ)) (es more : List End) (f : TextFault) → IsUnknown names es f → IsUnknown names (es ++ more) f
more_unknown names es more f u = unknown_by names es (es ++ more) f (λ at k. unknown-more names es more at k) u

-- a fault of looking up some ends is also one with known ends in front of them
pub behind_known : (names : List (List ℕ)) (es more : List End) (f : TextFault) → first_unknown names es ≡ None → IsUnknown names more f → IsUnknown names (es ++ more) f
behind_known names es more f h u = unknown_by names more (es ++ more) f (λ at k. known-behind names es more h ∙ k) u

-- ---- sections that are there

all-ends : (d : Draft) (links : Table (Named LinkDraft)) (demands : Table (Named DemandDraft)) → d.links ≡ Some links → d.demands ≡ Some demands → all_ends d ≡ ends_of link_ends links.rows ++ ends_of demand_ends demands.rows
all-ends d links demands l k =
    ap (λ (o : Option (Table (Named LinkDraft))). ends_of link_ends (rows_of o) ++ ends_of demand_ends (rows_of d.demands)) l
    ∙ ap (λ (o : Option (Table (Named DemandDraft))). ends_of link_ends links.rows ++ ends_of demand_ends (rows_of o)) k

in-draft : (d : Draft) (nodes : Table NodeRecord) (es : List End) (f : TextFault) → d.nodes ≡ Some nodes → all_ends d ≡ es → IsUnknown nodes.names es f → IsUnknown (names_of d.nodes) (all_ends d) f
in-draft d nodes es f n e u =
    let names : names_of d.nodes ≡ nodes.names = ap names_of n in
    subst (λ (ns : List (List ℕ)). IsUnknown ns (all_ends d) f) (sym names) (subst (λ (us : List End). IsUnknown nodes.names us f) (sym e) u)

-- an unknown end of the links
pub links_unknown : (d : Draft) (nodes : Table NodeRecord) (links : Table (Named LinkDraft)) (demands : Table (Named DemandDraft)) (ls : List (Named LinkDraft)) (f : TextFault)
    → d.nodes ≡ Some nodes → d.links ≡ Some links → d.demands ≡ Some demands → ls ≡ links.rows → IsUnknown nodes.names (ends_of link_ends ls) f → IsUnknown (names_of d.nodes) (all_ends d) f
links_unknown d nodes links demands ls f n l k e u =
    in-draft d nodes (ends_of link_ends links.rows ++ ends_of demand_ends demands.rows) f n (all-ends d links demands l k)
    (more_unknown nodes.names (ends_of link_ends links.rows) (ends_of demand_ends demands.rows) f (subst (λ (rows : List (Named LinkDraft)). IsUnknown nodes.names (ends_of link_ends rows) f) e u))

-- an unknown end of the demands, where those of the links are known
pub demands_unknown : (d : Draft) (nodes : Table NodeRecord) (links : Table (Named LinkDraft)) (demands : Table (Named DemandDraft)) (ls : List (Named LinkDraft)) (ds : List (Named DemandDraft)) (f : TextFault)
    → d.nodes ≡ Some nodes → d.links ≡ Some links → d.demands ≡ Some demands → ls ≡ links.rows → ds ≡ demands.rows → first_unknown nodes.names (ends_of link_ends ls) ≡ None → IsUnknown nodes.names (ends_of demand_ends ds) f → IsUnknown (names_of d.nodes) (all_ends d) f
demands_unknown d nodes links demands ls ds f n l k e i h u =
    in-draft d nodes (ends_of link_ends links.rows ++ ends_of demand_ends demands.rows) f n (all-ends d links demands l k)
    (behind_known nodes.names (ends_of link_ends links.rows) (ends_of demand_ends demands.rows) f (subst (λ (rows : List (Named LinkDraft)). first_unknown nodes.names (ends_of link_ends rows) ≡ None) e h)
    (subst (λ (rows : List (Named DemandDraft)). IsUnknown nodes.names (ends_of demand_ends rows) f) i u))

-- the next of what is left
pub taken_next : {A : Type 0} (whole taken left rest : List A) (x : A) → whole ≡ taken ++ left → left ≡ x ∷ rest → whole ≡ taken ++ x ∷ rest
taken_next {A} whole taken left rest x e h = e ∙ ap (λ (xs : List A). taken ++ xs) h

-- nothing is left
pub all_taken : {A : Type 0} (whole taken left : List A) → whole ≡ taken ++ left → length left ≡ 0 → whole ≡ taken
all_taken {A} whole taken left e n = e ∙ ap (λ (xs : List A). taken ++ xs) (nil_from_length left n) ∙ append-nil taken

-- the ends of one item more are known where they are
pub known_more : {T : Type 0} (two : T → End × End) (names : List (List ℕ)) (xs : List (Named T)) (x : Named T) → first_unknown names (ends_of two xs) ≡ None → first_unknown names (ends_of two (x ∷ [])) ≡ None → first_unknown names (ends_of two (xs ++ x ∷ [])) ≡ None
known_more two names xs x h k = ap (first_unknown names) (ends-append two xs (x ∷ [])) ∙ known-behind names (ends_of two xs) (ends_of two (x ∷ [])) h ∙ k

-- a fault of looking up an item's ends is one of all items, where the ends of those before it are known
pub item_unknown : {T : Type 0} (two : T → End × End) (names : List (List ℕ)) (whole xs rest : List (Named T)) (x : Named T) (f : TextFault)
    → whole ≡ xs ++ x ∷ rest → first_unknown names (ends_of two xs) ≡ None → IsUnknown names (ends_of two (x ∷ [])) f → IsUnknown names (ends_of two whole) f
item_unknown two names whole xs rest x f e h u =
    subst (λ (es : List End). IsUnknown names es f) (sym (ap (ends_of two) e ∙ ends-append two xs (x ∷ rest)))
    (behind_known names (ends_of two xs) (ends_of two (x ∷ rest)) f h (more_unknown names (ends_of two (x ∷ [])) (ends_of two rest) f u))

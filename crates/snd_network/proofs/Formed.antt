-- Each network that a text spells is well formed.
use Rattle.std.proofs.Common.{◌≡◌, ◌≢◌, ℕ, zero, suc, ◌+◌, ◌-◌, ◌<◌, ◌≤◌, true, false, nat_eq, List, [], ◌∷◌, ◌++◌, length, map, get_or, Option, Some, None, refl, sym, ap, subst, ◌∙◌, arith}
use Rattle.std.specs.Prelude.{Result, Ok, Err, IfOk}
use Rattle.std.specs.Option.{option_map}
use Rattle.std.specs.List.{AllByRecursion}
use Rattle.std.specs.Cmp.Lexicographic.{pointwise}
use Rattle.std.proofs.lemmas.Bool.Decides.{Decides-eqb}
use Rattle.std.proofs.lemmas.Slice.Eq.{slice_eq-Decides}
use Rattle.std.proofs.lemmas.List.{map-append, length-map, length-append, append-nil}
use Rattle.std.proofs.lemmas.List.Elements.{All-from_recursion}
use Rattle.snd_reader.proofs.Headers.{rest_within}
use Rattle.std.proofs.lemmas.List.Quantifiers.{all_pairs_push, position-Some}
use Rattle.plan_base.specs.declared.ids.NodeId.{NodeId}
use Rattle.plan_base.proofs.Bools.{list_any-false_at}
use Rattle.snd_network.proofs.Agree.{checked_same}
use Rattle.snd_lexer.specs.declared.token.Dialect.TheVariants as dialects
use Rattle.snd_lexer.specs.declared.token.Token.{Token}
use Rattle.snd_lexer.specs.declared.token.TokenKind.{TokenKind}
use Rattle.snd_lexer.specs.declared.token.TokenKind.TheVariants as kinds
use Rattle.snd_lexer.specs.Cutting as cutting
use Rattle.snd_lexer.specs.Cutting.{Piece, piece_text, text_of, kind_of, is_word, IsPiece, AreCut, token_bytes, with_bytes, shown_by, shown}
use Rattle.snd_lexer.specs.declared.limits.TheConstants.{MAX_TEXT_BYTES}
use Rattle.snd_lexer.proofs.Shown.{lexes_shows}
use Rattle.snd_reader.specs.declared.fault.TextFault.{TextFault}
use Rattle.snd_reader.specs.Readers.{Lexeme, word, open_bracket, close_bracket, equals_sign, the_end, Placed}
use Rattle.snd_reader.specs.Forms.{Then, IsToken, IsNothing, AreItems, Items}
use Rattle.snd_reader.specs.Tokens.{lexeme_of, place}
use Rattle.snd_network.specs.declared.file.NodeRecord.{NodeRecord}
use Rattle.snd_network.specs.declared.file.LinkRecord.{LinkRecord}
use Rattle.snd_network.specs.declared.file.DemandRecord.{DemandRecord}
use Rattle.snd_network.specs.declared.file.NetworkFile.{NetworkFile}
use Rattle.snd_network.specs.declared.draft.End.{End}
use Rattle.snd_network.specs.declared.draft.NodeItem.{NodeItem}
use Rattle.snd_network.specs.declared.draft.NodeItem.TheVariants as node_items
use Rattle.snd_network.specs.declared.draft.NodeList.{NodeList}
use Rattle.snd_network.specs.declared.draft.LinkDraft.{LinkDraft}
use Rattle.snd_network.specs.declared.draft.DemandDraft.{DemandDraft}
use Rattle.snd_network.specs.declared.draft.Named.{Named}
use Rattle.snd_network.specs.declared.draft.Table.{Table}
use Rattle.snd_network.specs.declared.draft.Draft.{Draft}
use Rattle.snd_network.specs.declared.draft.Section.{Section}
use Rattle.snd_network.specs.declared.draft.Section.TheVariants.{Nodes, Links, Demands, Meta, Paths}
use Rattle.snd_reader.specs.Names.{is_among, number_of}
use Rattle.snd_network.specs.Names.{IsNewName}
use Rattle.snd_network.specs.Grammar.{
  IsOpen,
  IsClose,
  IsNumeral,
  IsNumber,
  IsSignedWord,
  IsCoordinate,
  IsLimitWord,
  IsHopLimit,
  no_nodes,
  last_node,
  with_last,
  and_named,
  all_nodes,
  BeginsNode,
  NodeForm,
  NodesForm,
  EndsForm,
  BeginsModule,
  ModuleForm,
  ModulesForm,
  CostsForm,
  link_with,
  LinkForm,
  demand_with,
  DemandForm,
  no_rows,
  and_row,
  BeginsItem,
  ItemForm,
  ListForm,
  no_sections,
  and_nodes,
  and_links,
  and_demands,
  and_meta,
  and_paths,
  BeginsSection,
  SectionForm,
  NetworkForm,
}
use Rattle.snd_network.specs.Ends.{node_id, IsNode, IsLinkOf, IsDemandOf, AreAllOf, IsFileOf, names_of, rows_of}
use Rattle.snd_network.specs.Spelling.{network_header, SpellsNetwork}
use Rattle.snd_reader.specs.Texts.{HasTokens}
use Rattle.snd_reader.specs.Brackets.{IsSkipped}
use Rattle.snd_network.specs.WellFormed.{IsWord, IsName, IsCoordinateWord, IsGrains, IsWhole, IsPlace, IsLimit, IsModule, IsGoodNode, IsGoodLink, IsGoodDemand, AreDifferent, IsWellFormed}

-- ---- the words of a text are words

-- a word of a text that may be read
record IsSoundWord (bytes : List ℕ) : Type 0 where
  word : IsWord bytes
  short : length bytes ≤ MAX_TEXT_BYTES

-- the bytes of a token of this kind, if it is a word
abbrev IsSoundAs : TokenKind → List ℕ → Type 0
IsSoundAs kinds.Word bytes = IsSoundWord bytes
IsSoundAs kinds.Open bytes = Unit {0}
IsSoundAs kinds.Close bytes = Unit {0}
IsSoundAs kinds.Equals bytes = Unit {0}

abbrev IsSoundPair : TokenKind × List ℕ → Type 0
IsSoundPair p = IsSoundAs p.0 p.1

abbrev IsSound : Lexeme → Type 0
IsSound (word bytes) = IsSoundWord bytes
IsSound open_bracket = Unit {0}
IsSound close_bracket = Unit {0}
IsSound equals_sign = Unit {0}
IsSound the_end = Unit {0}

abbrev AreSound : List Placed → Type 0
AreSound [] = Unit {0}
AreSound (t ∷ ts) = IsSound t.is × AreSound ts

sound-pieces : (ps : List Piece) (after : List ℕ) → length (text_of ps) ≤ MAX_TEXT_BYTES → AreCut dialects.Network ps after → AllByRecursion IsSoundPair (shown ps)
sound-pieces [] after n h = tt
sound-pieces (p ∷ ps) after n h =
    let lengths : length (text_of (p ∷ ps)) ≡ length (piece_text p) + length (text_of ps) = length-append (piece_text p) (text_of ps) in
    by p h.0 (omega (arith, n, lengths)) (sound-pieces ps after (omega (arith, n, lengths)) h.1)
  where
    by : (q : Piece) → IsPiece dialects.Network q (text_of ps ++ after) → length (piece_text q) ≤ MAX_TEXT_BYTES → AllByRecursion IsSoundPair (shown ps) → AllByRecursion IsSoundPair (shown_by (piece_text q) (kind_of q) ++ shown ps)
    by (cutting.blank byte) k m later = later
    by (cutting.comment bytes) k m later = later
    by (cutting.word bytes) k m later = (record { word = record { some = k.0; word_bytes = All-from_recursion (λ byte. is_word dialects.Network byte ≡ true) bytes k.1.0 }; short = m }, later)
    by cutting.open_bracket k m later = (tt, later)
    by cutting.close_bracket k m later = (tt, later)
    by cutting.equals_sign k m later = (tt, later)

sound-lexeme : (kind : TokenKind) (bytes : List ℕ) → IsSoundAs kind bytes → IsSound (lexeme_of kind bytes)
sound-lexeme kinds.Word bytes h = h
sound-lexeme kinds.Open bytes h = tt
sound-lexeme kinds.Close bytes h = tt
sound-lexeme kinds.Equals bytes h = tt

sound-placed : (base : ℕ) (text : List ℕ) (ts : List Token) → AllByRecursion IsSoundPair (map (with_bytes text) ts) → AreSound (map (place base text) ts)
sound-placed base text [] h = tt
sound-placed base text (t ∷ ts) h = (sound-lexeme t.kind (token_bytes text t) h.0, sound-placed base text ts h.1)

sound-append : (a b : List Placed) → AreSound a → AreSound b → AreSound (a ++ b)
sound-append [] b h k = k
sound-append (t ∷ a) b h k = (h.0, sound-append a b h.1 k)

sound-apart : (a b : List Placed) → AreSound (a ++ b) → AreSound a × AreSound b
sound-apart [] b h = (tt, h)
sound-apart (t ∷ a) b h = let k = sound-apart a b h.1 in ((h.0, k.0), k.1)

sound-tokens : (text : List ℕ) (ts : List Placed) → length text ≤ MAX_TEXT_BYTES → HasTokens dialects.Network network_header text ts → AreSound ts
sound-tokens text ts n h =
    let s = lexes_shows dialects.Network h.rest h.tokens h.cut in
    let short : length (text_of s.pieces) ≤ MAX_TEXT_BYTES = omega (arith, n, rest_within network_header text h.rest h.header, ap length s.whole) in
    let each = subst (AllByRecursion IsSoundPair) (sym s.these) (sound-pieces s.pieces [] short s.cut) in
    let base = length text - length h.rest in
    subst AreSound (sym h.these) (sound-append (map (place base h.rest) h.tokens) (record { at = base + length h.rest; is = the_end } ∷ []) (sound-placed base h.rest h.tokens each) (tt, tt))

-- ---- what forms give of such tokens

-- what sound tokens of this form stand for has this property
record Yields {A : Type 0} (P : A → Type 0) (F : List Placed → A → Type 0) : Type 0 where
  gives : (l : List Placed) (x : A) → AreSound l → F l x → P x

-- nothing is said
abbrev Anything : {A : Type 0} → A → Type 0
Anything x = Unit {0}

yields-anything : {A : Type 0} (F : List Placed → A → Type 0) → Yields Anything F
yields-anything F = record { gives = λ l x s f. tt }

yields-token : {A : Type 0} (P : A → Type 0) (Is : Placed → A → Type 0) → ((t : Placed) (x : A) → IsSound t.is → Is t x → P x) → Yields P (IsToken Is)
yields-token P Is h = record { gives = λ l x s f. h f.0 x (subst AreSound f.1 s).0 f.2 }

yields-nothing : {A : Type 0} (P : A → Type 0) (v : A) → P v → Yields P (IsNothing v)
yields-nothing P v h = record { gives = λ l x s f. subst P (sym f.1) h }

yields-then : {A B : Type 0} (P : A → Type 0) (Q : B → Type 0) (F : List Placed → A → Type 0) (G : A → List Placed → B → Type 0) → Yields P F → ((x : A) → P x → Yields Q (G x)) → Yields Q (Then F G)
yields-then P Q F G f g = record {
  gives = λ l z s h.
      (let k = sound-apart h.0 h.2 (subst AreSound h.5 s) in
      (g h.1 (f.gives h.0 h.1 k.0 h.3)).gives h.2 z k.1 h.4);
}

module _ {S H : Type 0} (P : S → Type 0) (Head : S → Placed → Option H → Type 0) (F : S → H → List Placed → S → Type 0)
    (step : (s : S) (t : Placed) (h : H) → P s → IsSound t.is → Head s t (Some h) → Yields P (F s h)) where
  yields-so-many : (n : ℕ) (s : S) (l : List Placed) (x : S) → P s → AreSound l → AreItems Head F n s l x → P x
  unfolding AreItems
  yields-so-many zero s l x p k (t, a, e, b) = subst P (sym b) p
  yields-so-many (suc n) s l x p k (t, h, front, next, rest, a, f, r, e) =
      let q = subst AreSound e k in
      let m = sound-apart front rest q.1 in
      yields-so-many n next rest x ((step s t h p q.0 a).gives front next m.0 f) m.1 r

  yields-items : (s : S) → P s → Yields P (Items Head F s)
  yields-items s p = record { gives = λ l x k f. yields-so-many f.0 s l x p k f.1 }

-- ---- single tokens

yields-grains : Yields IsGrains (IsNumber 6)
yields-grains = yields-token IsGrains (IsNumeral 6) (λ t n s h. h.2.small)

yields-whole : Yields IsWhole (IsNumber 0)
yields-whole = yields-token IsWhole (IsNumeral 0) (λ t n s h. h.2.small)

yields-open : Yields Anything IsOpen
yields-open = yields-anything IsOpen

yields-close : Yields Anything IsClose
yields-close = yields-anything IsClose

yields-ends : Yields Anything EndsForm
yields-ends = yields-anything EndsForm

signed-word : (t : Placed) (x : List ℕ) → IsSound t.is → IsSignedWord t x → IsCoordinateWord x
signed-word t x s h = let w : IsSoundWord x = subst IsSound h.0 s in record { word = w.word; short = w.short; number = (checked_same x).1 h.1 }

yields-coordinate : Yields IsCoordinateWord IsCoordinate
yields-coordinate = yields-token IsCoordinateWord IsSignedWord signed-word

limit-within : (t : Placed) (x : Option ℕ) → IsSound t.is → IsLimitWord t x → IsLimit x
limit-within t None s h = tt
limit-within t (Some n) s h = h.2.small

yields-limit : Yields IsLimit IsHopLimit
yields-limit = yields-token IsLimit IsLimitWord limit-within

-- ---- names

-- a name that is none of these
abbrev IsFreshName : List (List ℕ) → List ℕ → Type 0
IsFreshName names bytes = IsName bytes × (is_among names bytes ≡ false)

fresh-name : (names : List (List ℕ)) (t : Placed) (name : List ℕ) → IsSound t.is → (t.is ≡ word name) × IsNewName names name → IsFreshName names name
fresh-name names t name s h = let w : IsSoundWord name = subst IsSound h.0 s in (record { word = w.word; short = h.1.0 }, h.1.1)

-- ---- rows with their names

-- each row is good, and these are the rows' names, which differ
record AreRows {R : Type 0} (name : R → List ℕ) (Good : R → Type 0) (names : List (List ℕ)) (rows : List R) : Type 0 where
  differ : AreDifferent names
  same : map name rows ≡ names
  each : AllByRecursion Good rows

all-append : {X : Type 0} (P : X → Type 0) (xs ys : List X) → AllByRecursion P xs → AllByRecursion P ys → AllByRecursion P (xs ++ ys)
all-append P [] ys h k = k
all-append P (x ∷ xs) ys h k = (h.0, all-append P xs ys h.1 k)

all-front : {X : Type 0} (P : X → Type 0) (xs ys : List X) → AllByRecursion P (xs ++ ys) → AllByRecursion P xs × AllByRecursion P ys
all-front P [] ys h = (tt, h)
all-front P (x ∷ xs) ys h = let k = all-front P xs ys h.1 in ((h.0, k.0), k.1)

same-name : (a b : List ℕ) → a ≡ b → pointwise nat_eq a b ≡ true
same-name a b e = (slice_eq-Decides Decides-eqb a b (pointwise nat_eq a b) refl).1 e

differ-none : AreDifferent []
differ-none = λ i j d lt within. absurd (omega arith)

differ-push : (names : List (List ℕ)) (bytes : List ℕ) → AreDifferent names → is_among names bytes ≡ false → AreDifferent (names ++ bytes ∷ [])
differ-push names bytes h fresh = all_pairs_push (λ a b. a ≢ b) names bytes h (λ k d within e.
    (let yes : pointwise nat_eq bytes (get_or names k d) ≡ true = same-name bytes (get_or names k d) (sym e) in
    let no : pointwise nat_eq bytes (get_or names k d) ≡ false = list_any-false_at (λ name. pointwise nat_eq bytes name) names k d within fresh in
    let bad : true ≡ false = sym yes ∙ no in
    cc))

no-rows : {R : Type 0} (name : R → List ℕ) (Good : R → Type 0) → AreRows name Good [] []
no-rows name Good = record { differ = differ-none; same = refl; each = tt }

row-push : {R : Type 0} (name : R → List ℕ) (Good : R → Type 0) (names : List (List ℕ)) (rows : List R) (row : R) → AreRows name Good names rows → Good row → is_among names (name row) ≡ false → AreRows name Good (names ++ name row ∷ []) (rows ++ row ∷ [])
row-push name Good names rows row h good fresh = record {
  differ = differ-push names (name row) h.differ fresh;
  same = map-append name rows (row ∷ []) ∙ ap (λ (ns : List (List ℕ)). ns ++ name row ∷ []) h.same;
  each = all-append Good rows (row ∷ []) h.each (good, tt);
}

-- ---- links

abbrev AreModules : List (ℕ × ℕ) → Type 0
AreModules modules = AllByRecursion IsModule modules

record IsGoodLinkDraft (l : LinkDraft) : Type 0 where
  pre : IsGrains l.pre
  pre_cost : IsGrains l.pre_cost
  routing : IsGrains l.routing
  setup : IsGrains l.setup
  modules : AreModules l.modules

yields-module : (modules : List (ℕ × ℕ)) (t : Placed) (capacity : ℕ) → AreModules modules → IsSound t.is → BeginsModule modules t (Some capacity) → Yields AreModules (ModuleForm modules capacity)
yields-module modules t capacity h s e =
    yields-then IsGrains AreModules (IsNumber 6) (λ cost. IsNothing (modules ++ (capacity, cost) ∷ [])) yields-grains
    (λ cost c. yields-nothing AreModules (modules ++ (capacity, cost) ∷ []) (all-append IsModule modules ((capacity, cost) ∷ []) h ((e.2.small, c), tt)))

yields-modules : Yields AreModules ModulesForm
yields-modules = yields-items AreModules BeginsModule ModuleForm yields-module [] tt

-- four numbers of millionths
abbrev AreCosts : ℕ × ℕ × ℕ × ℕ → Type 0
AreCosts n = IsGrains n.0 × IsGrains n.1 × IsGrains n.2 × IsGrains n.3

yields-costs : Yields AreCosts CostsForm
yields-costs =
    yields-then _ _ _ _ yields-grains (λ pre a.
    yields-then _ _ _ _ yields-grains (λ pre_cost b.
    yields-then _ _ _ _ yields-grains (λ routing c.
    yields-then _ _ _ _ yields-grains (λ setup d.
    yields-then _ _ _ _ yields-open (λ _ _.
    yields-nothing AreCosts (pre, pre_cost, routing, setup) (a, b, c, d))))))

yields-link : Yields IsGoodLinkDraft LinkForm
yields-link =
    yields-then _ _ _ _ yields-ends (λ x _.
    yields-then _ _ _ _ yields-costs (λ n good.
    yields-then _ _ _ _ yields-modules (λ modules e.
    yields-nothing IsGoodLinkDraft (link_with x n modules) (record { pre = good.0; pre_cost = good.1; routing = good.2; setup = good.3; modules = e }))))

-- ---- demands

record IsGoodDemandDraft (d : DemandDraft) : Type 0 where
  unit : IsWhole d.unit
  value : IsGrains d.value
  hops : IsLimit d.hops

yields-demand : Yields IsGoodDemandDraft DemandForm
yields-demand =
    yields-then _ _ _ _ yields-ends (λ x _.
    yields-then _ _ _ _ yields-whole (λ unit a.
    yields-then _ _ _ _ yields-grains (λ value b.
    yields-then _ _ _ _ yields-limit (λ hops c.
    yields-nothing IsGoodDemandDraft (demand_with x unit value hops) (record { unit = a; value = b; hops = c })))))

-- ---- lists of named things

abbrev IsGoodNamed : {T : Type 0} → (T → Type 0) → Named T → Type 0
IsGoodNamed Good r = IsName r.name × Good r.part

abbrev name_of : {T : Type 0} → Named T → List ℕ
name_of r = r.name

abbrev IsGoodTable : {T : Type 0} → (T → Type 0) → Table (Named T) → Type 0
IsGoodTable Good s = AreRows name_of (IsGoodNamed Good) s.names s.rows

yields-item : {T : Type 0} (Good : T → Type 0) (F : List Placed → T → Type 0) → Yields Good F → (s : Table (Named T)) (t : Placed) (name : List ℕ) → IsGoodTable Good s → IsSound t.is → BeginsItem s t (Some name) → Yields (IsGoodTable Good) (ItemForm F s name)
yields-item {T} Good F f s t name h sound e =
    let new = fresh-name s.names t name sound e in
    yields-then Good (IsGoodTable Good) F (λ part. IsNothing (and_row s name part)) f
    (λ part good. yields-nothing (IsGoodTable Good) (and_row s name part) (row-push name_of (IsGoodNamed Good) s.names s.rows (record { name = name; part = part }) h (new.0, good) new.1))

yields-list : {T : Type 0} (Good : T → Type 0) (F : List Placed → T → Type 0) → Yields Good F → Yields (IsGoodTable Good) (ListForm F)
yields-list {T} Good F f = yields-items (IsGoodTable Good) BeginsItem (ItemForm F) (yields-item Good F f) no_rows (no-rows name_of (IsGoodNamed Good))

-- ---- nodes

abbrev node_name : NodeRecord → List ℕ
node_name n = n.name

-- with the node whose name waits, as it stands without a place
abbrev AreNodes : NodeList → Type 0
AreNodes s = AreRows node_name IsGoodNode s.names (s.rows ++ last_node s.pending None)

place-names : (rows : List NodeRecord) (pending : Option (List ℕ)) (place : Option (List ℕ × List ℕ)) → map node_name (rows ++ last_node pending place) ≡ map node_name (rows ++ last_node pending None)
place-names rows None p = refl
place-names rows (Some name) p = map-append node_name rows (last_node (Some name) p) ∙ sym (map-append node_name rows (last_node (Some name) None))

placed-good : (pending : Option (List ℕ)) (place : Option (List ℕ × List ℕ)) → IsPlace place → AllByRecursion IsGoodNode (last_node pending None) → AllByRecursion IsGoodNode (last_node pending place)
placed-good None p good h = tt
placed-good (Some name) p good h = (record { name = h.0.name; place = good }, tt)

placed-nodes : (s : NodeList) (p : Option (List ℕ × List ℕ)) → IsPlace p → AreNodes s → AreNodes (with_last s p)
placed-nodes s p good h =
    let k = all-front IsGoodNode s.rows (last_node s.pending None) h.each in
    let rows = s.rows ++ last_node s.pending p in
    record {
      differ = h.differ;
      same = ap (map node_name) (append-nil rows) ∙ place-names s.rows s.pending p ∙ h.same;
      each = subst (AllByRecursion IsGoodNode) (sym (append-nil rows)) (all-append IsGoodNode s.rows (last_node s.pending p) k.0 (placed-good s.pending p good k.1));
    }

yields-node : (s : NodeList) (t : Placed) (i : NodeItem) → AreNodes s → IsSound t.is → BeginsNode s t (Some i) → Yields AreNodes (NodeForm s i)
yields-node s t (node_items.Name bytes) h sound e =
    let new = fresh-name s.names t bytes sound e in
    yields-nothing AreNodes (and_named s bytes) (row-push node_name IsGoodNode s.names (s.rows ++ last_node s.pending None) (record { name = bytes; place = None }) h (record { name = new.0; place = tt }) new.1)
yields-node s t node_items.Place h sound e =
    yields-then _ _ _ _ yields-coordinate (λ x a.
    yields-then _ _ _ _ yields-coordinate (λ y b.
    yields-then _ _ _ _ yields-close (λ _ _.
    yields-nothing AreNodes (with_last s (Some (x, y))) (placed-nodes s (Some (x, y)) (a, b) h))))

abbrev IsGoodNodeTable : Table NodeRecord → Type 0
IsGoodNodeTable t = AreRows node_name IsGoodNode t.names t.rows

yields-nodes : Yields IsGoodNodeTable NodesForm
yields-nodes = yields-then AreNodes IsGoodNodeTable (Items BeginsNode NodeForm no_nodes) (λ s. IsNothing (all_nodes s))
    (yields-items AreNodes BeginsNode NodeForm yields-node no_nodes (no-rows node_name IsGoodNode))
    (λ s h. yields-nothing IsGoodNodeTable (all_nodes s) h)

-- ---- sections

record IsGoodDraft (d : Draft) : Type 0 where
  nodes : AreRows node_name IsGoodNode (names_of d.nodes) (rows_of d.nodes)
  links : AreRows name_of (IsGoodNamed IsGoodLinkDraft) (names_of d.links) (rows_of d.links)
  demands : AreRows name_of (IsGoodNamed IsGoodDemandDraft) (names_of d.demands) (rows_of d.demands)

yields-section : (d : Draft) (t : Placed) (k : Section) → IsGoodDraft d → IsSound t.is → BeginsSection d t (Some k) → Yields IsGoodDraft (SectionForm d k)
yields-section d t Nodes h sound e =
    yields-then _ _ _ _ yields-open (λ _ _. yields-then _ _ _ _ yields-nodes (λ x good. yields-nothing IsGoodDraft (and_nodes d x) (record { nodes = good; links = h.links; demands = h.demands })))
yields-section d t Links h sound e =
    yields-then _ _ _ _ yields-open (λ _ _. yields-then _ _ _ _ (yields-list IsGoodLinkDraft LinkForm yields-link) (λ x good. yields-nothing IsGoodDraft (and_links d x) (record { nodes = h.nodes; links = good; demands = h.demands })))
yields-section d t Demands h sound e =
    yields-then _ _ _ _ yields-open (λ _ _. yields-then _ _ _ _ (yields-list IsGoodDemandDraft DemandForm yields-demand) (λ x good. yields-nothing IsGoodDraft (and_demands d x) (record { nodes = h.nodes; links = h.links; demands = good })))
yields-section d t Meta h sound e =
    yields-then _ _ _ _ yields-open (λ _ _. yields-then _ _ _ _ (yields-anything IsSkipped) (λ _ _. yields-nothing IsGoodDraft (and_meta d) (record { nodes = h.nodes; links = h.links; demands = h.demands })))
yields-section d t Paths h sound e =
    yields-then _ _ _ _ yields-open (λ _ _. yields-then _ _ _ _ (yields-anything IsSkipped) (λ _ _. yields-nothing IsGoodDraft (and_paths d) (record { nodes = h.nodes; links = h.links; demands = h.demands })))

yields-network : Yields IsGoodDraft NetworkForm
yields-network = yields-items IsGoodDraft BeginsSection SectionForm yields-section no_sections
    (record { nodes = no-rows node_name IsGoodNode; links = no-rows name_of (IsGoodNamed IsGoodLinkDraft); demands = no-rows name_of (IsGoodNamed IsGoodDemandDraft) })

-- ---- the network with the numbers of its nodes

node-within : (names : List (List ℕ)) (e : End) (node : NodeId) → IsNode names e node → node.0 < length names
node-within names e node h = by (number_of names e.name) refl h
  where
    by : (o : Option ℕ) → number_of names e.name ≡ o → option_map node_id o ≡ Some node → node.0 < length names
    by (Some n) d g = let same : node_id n ≡ node = cc in subst (λ (k : NodeId). k.0 < length names) same (position-Some (λ name. pointwise nat_eq e.name name) names n [] d).0
    by None d g = absurd cc

good-link : (names : List (List ℕ)) (l : Named LinkDraft) (r : LinkRecord) → IsLinkOf names l r → IsGoodNamed IsGoodLinkDraft l → IsGoodLink (length names) r
good-link names l r h good = record {
  name = subst IsName (sym h.name) good.0;
  source = node-within names l.part.source r.source h.source;
  target = node-within names l.part.target r.target h.target;
  pre = subst IsGrains (sym h.pre) good.1.pre;
  pre_cost = subst IsGrains (sym h.pre_cost) good.1.pre_cost;
  routing = subst IsGrains (sym h.routing) good.1.routing;
  setup = subst IsGrains (sym h.setup) good.1.setup;
  modules = All-from_recursion IsModule r.modules (subst AreModules (sym h.modules) good.1.modules);
}

good-demand : (names : List (List ℕ)) (d : Named DemandDraft) (r : DemandRecord) → IsDemandOf names d r → IsGoodNamed IsGoodDemandDraft d → IsGoodDemand (length names) r
good-demand names d r h good = record {
  name = subst IsName (sym h.name) good.0;
  source = node-within names d.part.source r.source h.source;
  target = node-within names d.part.target r.target h.target;
  unit = subst IsWhole (sym h.unit) good.1.unit;
  value = subst IsGrains (sym h.value) good.1.value;
  hops = subst IsLimit (sym h.hops) good.1.hops;
}

found-each : {A B : Type 0} (Is : A → B → Type 0) (P : A → Type 0) (Q : B → Type 0) → ((x : A) (y : B) → Is x y → P x → Q y) → (xs : List A) (ys : List B) → AreAllOf Is xs ys → AllByRecursion P xs → AllByRecursion Q ys
found-each Is P Q one [] [] h k = tt
found-each Is P Q one [] (y ∷ ys) h k = absurd h
found-each Is P Q one (x ∷ xs) [] h k = absurd h
found-each Is P Q one (x ∷ xs) (y ∷ ys) h k = (one x y h.0 k.0, found-each Is P Q one xs ys h.1 k.1)

found-names : {A B : Type 0} (Is : A → B → Type 0) (before : A → List ℕ) (after : B → List ℕ) → ((x : A) (y : B) → Is x y → after y ≡ before x) → (xs : List A) (ys : List B) → AreAllOf Is xs ys → map after ys ≡ map before xs
found-names Is before after one [] [] h = refl
found-names Is before after one [] (y ∷ ys) h = absurd h
found-names Is before after one (x ∷ xs) [] h = absurd h
found-names Is before after one (x ∷ xs) (y ∷ ys) h = rw (one x y h.0, found-names Is before after one xs ys h.1) refl

abbrev link_name : LinkRecord → List ℕ
link_name l = l.name

abbrev demand_name : DemandRecord → List ℕ
demand_name d = d.name

file-formed : (d : Draft) (file : NetworkFile) → IsFileOf d file → IsGoodDraft d → IsWellFormed file
file-formed d file h good =
    let names = names_of d.nodes in
    let node_names = sym (ap (map node_name) h.nodes ∙ good.nodes.same) in
    let count : length names ≡ length file.nodes = ap length node_names ∙ length-map file.nodes node_name in
    let links = found-each (IsLinkOf names) (IsGoodNamed IsGoodLinkDraft) (IsGoodLink (length names)) (good-link names) (rows_of d.links) file.links h.links good.links.each in
    let demands = found-each (IsDemandOf names) (IsGoodNamed IsGoodDemandDraft) (IsGoodDemand (length names)) (good-demand names) (rows_of d.demands) file.demands h.demands good.demands.each in
    let link_names = found-names (IsLinkOf names) name_of link_name (λ x y k. k.name) (rows_of d.links) file.links h.links ∙ good.links.same in
    let demand_names = found-names (IsDemandOf names) name_of demand_name (λ x y k. k.name) (rows_of d.demands) file.demands h.demands ∙ good.demands.same in
    record {
      nodes = All-from_recursion IsGoodNode file.nodes (subst (AllByRecursion IsGoodNode) (sym h.nodes) good.nodes.each);
      links = All-from_recursion (IsGoodLink (length file.nodes)) file.links (subst (λ (n : ℕ). AllByRecursion (IsGoodLink n) file.links) count links);
      demands = All-from_recursion (IsGoodDemand (length file.nodes)) file.demands (subst (λ (n : ℕ). AllByRecursion (IsGoodDemand n) file.demands) count demands);
      apart_nodes = subst AreDifferent node_names good.nodes.differ;
      apart_links = subst AreDifferent (sym link_names) good.links.differ;
      apart_demands = subst AreDifferent (sym demand_names) good.demands.differ;
    }

-- each network that a text of no more than the most bytes spells is well formed
pub well_formed : (text : List ℕ) (file : NetworkFile) → length text ≤ MAX_TEXT_BYTES → SpellsNetwork text file → IsWellFormed file
well_formed text file n h = file-formed h.draft file h.found (yields-network.gives h.spelt.ts h.draft (sound-tokens text h.spelt.ts n h.spelt.tokens) h.spelt.form)

-- a network that is read is well formed
pub read_formed : (text : List ℕ) (result : Result NetworkFile TextFault) → length text ≤ MAX_TEXT_BYTES → IfOk result (SpellsNetwork text) → IfOk result IsWellFormed
read_formed text (Ok file) n h = well_formed text file n h
read_formed text (Err f) n h = tt

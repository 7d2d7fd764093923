-- Records with numbers of price lists, read and shown.
use Rattle.std.proofs.Common.{◌≡◌, ℕ, zero, suc, ◌+◌, ◌<◌, ◌≤◌, nat_le, cond, List, [], ◌∷◌, length, Some, None, refl, sym, ap, subst, ◌∙◌, arith}
use Rattle.std.specs.Prelude.{slice_get, IfSome, IsTrue}
use Rattle.std.specs.Option.{option_map}
use Rattle.std.specs.List.{AllByRecursion}
use Rattle.std.proofs.lemmas.Bool.{leb-true, le-leb}
use Rattle.plan_base.specs.declared.limits.TheConstants.{MAX_NODES}
use Rattle.proof_tree.specs.declared.tree.Evidence.{Evidence}
use Rattle.proof_tree.specs.declared.tree.Evidence.TheVariants.{Bound, Routed, Overfull, Cut, Far, Crowd, Open}
use Rattle.proof_tree.specs.declared.tree.TreeNode.{TreeNode}
use Rattle.proof_tree.specs.declared.tree.TreeNode.TheVariants.{Split, Loads, Leaf}
use Rattle.proof_tree.specs.Spellings.{FitsEvidence, FitsRecord}
use Rattle.cert_format.specs.declared.limits.TheConstants.{MAX_LISTS}
use Rattle.cert_format.specs.declared.form.Form.{Form}
use Rattle.cert_format.specs.declared.form.Form.TheVariants.{First, Second, Third}
use Rattle.cert_format.specs.Versions.{has_line}
use Rattle.cert_format.specs.Lists.{number_in, record_prices, with_number, shown, width, named_behind, IsNext, Names, AreNamed, AreNew, listed, priced, with_listed_prices, meant, resolved}
use Rattle.plan_tokens.specs.Words.{◌>>=◌}
use Rattle.cert_format.specs.Grammar.{record_line, HasLeafFields, HasRecordFields}
use Rattle.cert_format.specs.Bodies.{record_of, record_in}
use Rattle.plan_tokens.proofs.NumberWords.{then-some, map-some}
use Rattle.cert_format.proofs.BodyLaws.{AreSmall}
use Rattle.cert_format.proofs.RecordLaws.{when_some, record_takes, record_again}
use Rattle.cert_format.proofs.ListLaws.{list_numbered, number_at, list_good, AreGood}

within-at : (lists : List (List ℕ)) (n : ℕ) (list : List ℕ) → slice_get lists n ≡ Some list → n < length lists
within-at [] n list e = absurd cc
within-at (x ∷ lists) zero list e = omega arith
within-at (x ∷ lists) (suc n) list e = omega (arith, within-at lists n list e)

-- the prices that numbers stand for
record AreListedPrices (w : ℕ) (lists : List (List ℕ)) (named : ℕ) (ns ps : List ℕ) : Type 0 where
  numbers : ns ≡ number_in lists ps ∷ []
  next : IsNext lists named ps
  count : length ps ≡ w
  small : AreSmall ps

listed-takes : (w : ℕ) (lists : List (List ℕ)) (named : ℕ) (ns ps : List ℕ) → AreNew w [] lists → listed lists named ns ≡ Some ps → AreListedPrices w lists named ns ps
listed-takes w lists named [] ps new e = absurd cc
listed-takes w lists named (n ∷ m ∷ ns) ps new e = absurd cc
listed-takes w lists named (n ∷ []) ps new e =
    let (test, there) = when_some (nat_le n named) (slice_get lists n) ps e in
    let number : number_in lists ps ≡ 0 + n = number_at w [] lists n ps new there in
    let same : number_in lists ps ≡ n = omega (arith, number) in
    let good = list_good w [] lists n ps new there in
    record {
      numbers = ap (λ k. k ∷ []) (sym same);
      next = record { listed = omega (arith, same, within-at lists n ps there); in_order = omega (arith, same, leb-true n named test) };
      count = good.0;
      small = good.1;
    }

listed-again : (lists : List (List ℕ)) (named : ℕ) (ps : List ℕ) → IsNext lists named ps → listed lists named (number_in lists ps ∷ []) ≡ Some ps
listed-again lists named ps next =
    ap (λ t. cond t (slice_get lists (number_in lists ps)) None) (le-leb (number_in lists ps) named next.in_order) ∙ list_numbered lists ps next.listed

-- a record, and the one with the number of its list in place of the prices
record IsNumbered (lists : List (List ℕ)) (named nodes entries : ℕ) (node raw : TreeNode) : Type 0 where
  fits : FitsRecord nodes entries node
  fields : HasRecordFields node
  next : IfSome (record_prices node) (IsNext lists named)
  numbers : raw ≡ with_number lists node

-- a leaf with prices in place of the number of their list
leaf-takes : (lists : List (List ℕ)) (named nodes entries : ℕ) (raw e : Evidence) → AreNew entries [] lists → priced lists named raw ≡ Some e → FitsEvidence nodes 1 raw → HasLeafFields raw → IsNumbered lists named nodes entries (Leaf e) (Leaf raw)
leaf-takes lists named nodes entries (Bound ns) e new h fits fields =
    let (ps, found, is) = map-some (listed lists named ns) (λ prices. Bound prices) e h in
    let p = listed-takes entries lists named ns ps new found in
    subst (λ (x : Evidence). IsNumbered lists named nodes entries (Leaf x) (Leaf (Bound ns))) is (record { fits = p.count; fields = p.small; next = p.next; numbers = ap (λ ks. Leaf (Bound ks)) p.numbers })
leaf-takes lists named nodes entries Routed e new h fits fields = (let is : Routed ≡ e = cc in subst (λ (x : Evidence). IsNumbered lists named nodes entries (Leaf x) (Leaf Routed)) is (record { fits = tt; fields = tt; next = tt; numbers = refl }))
leaf-takes lists named nodes entries (Overfull link) e new h fits fields = (let is : Overfull link ≡ e = cc in subst (λ (x : Evidence). IsNumbered lists named nodes entries (Leaf x) (Leaf (Overfull link))) is (record { fits = tt; fields = fields; next = tt; numbers = refl }))
leaf-takes lists named nodes entries (Cut demand reached) e new h fits fields = (let is : Cut demand reached ≡ e = cc in subst (λ (x : Evidence). IsNumbered lists named nodes entries (Leaf x) (Leaf (Cut demand reached))) is (record { fits = fits; fields = fields; next = tt; numbers = refl }))
leaf-takes lists named nodes entries (Far demand) e new h fits fields = (let is : Far demand ≡ e = cc in subst (λ (x : Evidence). IsNumbered lists named nodes entries (Leaf x) (Leaf (Far demand))) is (record { fits = tt; fields = fields; next = tt; numbers = refl }))
leaf-takes lists named nodes entries (Crowd ns) e new h fits fields =
    let (ps, found, is) = map-some (listed lists named ns) (λ prices. Crowd prices) e h in
    let p = listed-takes entries lists named ns ps new found in
    subst (λ (x : Evidence). IsNumbered lists named nodes entries (Leaf x) (Leaf (Crowd ns))) is (record { fits = p.count; fields = p.small; next = p.next; numbers = ap (λ ks. Leaf (Crowd ks)) p.numbers })
leaf-takes lists named nodes entries (Open ns) e new h fits fields =
    let (ps, found, is) = map-some (listed lists named ns) (λ prices. Open prices) e h in
    let p = listed-takes entries lists named ns ps new found in
    subst (λ (x : Evidence). IsNumbered lists named nodes entries (Leaf x) (Leaf (Open ns))) is (record { fits = p.count; fields = p.small; next = p.next; numbers = ap (λ ks. Leaf (Open ks)) p.numbers })

numbered-takes : (lists : List (List ℕ)) (named nodes entries : ℕ) (raw node : TreeNode) → AreNew entries [] lists → with_listed_prices lists named raw ≡ Some node → FitsRecord nodes 1 raw → HasRecordFields raw → IsNumbered lists named nodes entries node raw
numbered-takes lists named nodes entries (Split demand at left right) node new e fits fields =
    let is : Split demand at left right ≡ node = cc in
    subst (λ (x : TreeNode). IsNumbered lists named nodes entries x (Split demand at left right)) is (record { fits = fits; fields = fields; next = tt; numbers = refl })
numbered-takes lists named nodes entries (Loads place load) node new e fits fields =
    let is : Loads place load ≡ node = cc in
    subst (λ (x : TreeNode). IsNumbered lists named nodes entries x (Loads place load)) is (record { fits = tt; fields = fields; next = tt; numbers = refl })
numbered-takes lists named nodes entries (Leaf raw) node new e fits fields =
    let (found, first, is) = map-some (priced lists named raw) (λ (x : Evidence). Leaf x) node e in
    subst (λ (x : TreeNode). IsNumbered lists named nodes entries x (Leaf raw)) is (leaf-takes lists named nodes entries raw found new first fits fields)

-- a record, and what stands for it in a text of this version
record IsShownAs (form : Form) (lists : List (List ℕ)) (named nodes entries : ℕ) (node raw : TreeNode) : Type 0 where
  fits : FitsRecord nodes entries node
  fields : HasRecordFields node
  names : Names form lists named node
  is_shown : raw ≡ shown form lists node

meant-takes : (form : Form) (lists : List (List ℕ)) (named nodes entries : ℕ) (raw node : TreeNode) → AreGood form entries lists → meant form lists named raw ≡ Some node → FitsRecord nodes (width form entries) raw → HasRecordFields raw → IsShownAs form lists named nodes entries node raw
meant-takes First lists named nodes entries raw node good e fits fields =
    let is : raw ≡ node = cc in
    subst (λ (x : TreeNode). IsShownAs First lists named nodes entries x raw) is (record { fits = fits; fields = fields; names = tt; is_shown = refl })
meant-takes Second lists named nodes entries raw node good e fits fields = (let n = numbered-takes lists named nodes entries raw node good.1 e fits fields in record { fits = n.fits; fields = n.fields; names = n.next; is_shown = n.numbers })
meant-takes Third lists named nodes entries raw node good e fits fields = (let n = numbered-takes lists named nodes entries raw node good.1 e fits fields in record { fits = n.fits; fields = n.fields; names = n.next; is_shown = n.numbers })

-- the version has a line for a record exactly where it has one for what stands for it
shown-line : (form : Form) (lists : List (List ℕ)) (node : TreeNode) → has_line form (shown form lists node) ≡ has_line form node
shown-line First lists node = refl
shown-line Second lists (Split demand at left right) = refl
shown-line Second lists (Loads place load) = refl
shown-line Second lists (Leaf e) = refl
shown-line Third lists node = refl

-- the line of a record in a text of this version
pub record IsLineOf (form : Form) (lists : List (List ℕ)) (named nodes entries : ℕ) (node : TreeNode) (body : List ℕ) : Type 0 where
  pub fits : FitsRecord nodes entries node
  pub fields : HasRecordFields node
  pub has : IsTrue (has_line form node)
  pub names : Names form lists named node
  pub line : body ≡ record_line (shown form lists node)

-- a record that is read in a text of a version fits and names its price list in order, and the line is its own
pub record_in_takes : (form : Form) (lists : List (List ℕ)) (named nodes entries : ℕ) (body : List ℕ) (node : TreeNode) → AreGood form entries lists → record_in form lists named nodes entries body ≡ Some node → IsLineOf form lists named nodes entries node body
unfolding record_in resolved
record_in_takes form lists named nodes entries body node good e =
    let (raw, first, later) = then-some (record_of nodes (width form entries) body) (resolved form lists named) node e in
    let r = record_takes nodes (width form entries) body raw first in
    let (test, made) = when_some (has_line form raw) (meant form lists named raw) node later in
    let s = meant-takes form lists named nodes entries raw node good made r.fits r.fields in
    record {
      fits = s.fits;
      fields = s.fields;
      has = sym (shown-line form lists node) ∙ ap (has_line form) (sym s.is_shown) ∙ test;
      names = s.names;
      line = r.line ∙ ap record_line s.is_shown;
    }

number-small : (lists : List (List ℕ)) (named : ℕ) (ps : List ℕ) → length lists ≤ MAX_LISTS → IsNext lists named ps → AreSmall (number_in lists ps ∷ [])
number-small lists named ps few next = (omega (arith, few, next.listed), tt)

-- a record with the number of its list can stand in a line, and is read as the record
record IsNumberedWell (lists : List (List ℕ)) (named nodes : ℕ) (node : TreeNode) : Type 0 where
  fits : FitsRecord nodes 1 (with_number lists node)
  fields : HasRecordFields (with_number lists node)
  is_read : with_listed_prices lists named (with_number lists node) ≡ Some node

numbered-well : (lists : List (List ℕ)) (named nodes entries : ℕ) (node : TreeNode) → length lists ≤ MAX_LISTS → FitsRecord nodes entries node → HasRecordFields node → IfSome (record_prices node) (IsNext lists named) → IsNumberedWell lists named nodes node
numbered-well lists named nodes entries (Split demand at left right) few fits fields next = record { fits = fits; fields = fields; is_read = refl }
numbered-well lists named nodes entries (Loads place load) few fits fields next = record { fits = tt; fields = fields; is_read = refl }
numbered-well lists named nodes entries (Leaf (Bound ps)) few fits fields next = record { fits = refl; fields = number-small lists named ps few next; is_read = ap (λ o. option_map (λ (x : Evidence). Leaf x) (option_map (λ prices. Bound prices) o)) (listed-again lists named ps next) }
numbered-well lists named nodes entries (Leaf Routed) few fits fields next = record { fits = tt; fields = tt; is_read = refl }
numbered-well lists named nodes entries (Leaf (Overfull link)) few fits fields next = record { fits = tt; fields = fields; is_read = refl }
numbered-well lists named nodes entries (Leaf (Cut demand reached)) few fits fields next = record { fits = fits; fields = fields; is_read = refl }
numbered-well lists named nodes entries (Leaf (Far demand)) few fits fields next = record { fits = tt; fields = fields; is_read = refl }
numbered-well lists named nodes entries (Leaf (Crowd ps)) few fits fields next = record { fits = refl; fields = number-small lists named ps few next; is_read = ap (λ o. option_map (λ (x : Evidence). Leaf x) (option_map (λ prices. Crowd prices) o)) (listed-again lists named ps next) }
numbered-well lists named nodes entries (Leaf (Open ps)) few fits fields next = record { fits = refl; fields = number-small lists named ps few next; is_read = ap (λ o. option_map (λ (x : Evidence). Leaf x) (option_map (λ prices. Open prices) o)) (listed-again lists named ps next) }

-- what stands for a record can stand in a line, and is read as the record
record IsShownWell (form : Form) (lists : List (List ℕ)) (named nodes entries : ℕ) (node : TreeNode) : Type 0 where
  fits : FitsRecord nodes (width form entries) (shown form lists node)
  fields : HasRecordFields (shown form lists node)
  is_read : meant form lists named (shown form lists node) ≡ Some node

shown-well : (form : Form) (lists : List (List ℕ)) (named nodes entries : ℕ) (node : TreeNode) → AreGood form entries lists → FitsRecord nodes entries node → HasRecordFields node → Names form lists named node → IsShownWell form lists named nodes entries node
shown-well First lists named nodes entries node good fits fields names = record { fits = fits; fields = fields; is_read = refl }
shown-well Second lists named nodes entries node good fits fields names = (let w = numbered-well lists named nodes entries node good.0 fits fields names in record { fits = w.fits; fields = w.fields; is_read = w.is_read })
shown-well Third lists named nodes entries node good fits fields names = (let w = numbered-well lists named nodes entries node good.0 fits fields names in record { fits = w.fits; fields = w.fields; is_read = w.is_read })

-- the line in which a version shows a record that fits and names its price list in order is read as it
pub record_in_again : (form : Form) (lists : List (List ℕ)) (named nodes entries : ℕ) (node : TreeNode) → nodes ≤ MAX_NODES → AreGood form entries lists → FitsRecord nodes entries node → HasRecordFields node → IsTrue (has_line form node) → Names form lists named node
    → record_in form lists named nodes entries (record_line (shown form lists node)) ≡ Some node
unfolding record_in resolved
record_in_again form lists named nodes entries node few good fits fields has names =
    let w = shown-well form lists named nodes entries node good fits fields names in
    ap (λ o. o >>= resolved form lists named) (record_again nodes (width form entries) (shown form lists node) few w.fits w.fields)
    ∙ ap (λ t. cond t (meant form lists named (shown form lists node)) None) (shown-line form lists node ∙ has)
    ∙ w.is_read

-- records that fit and name price lists in order fit as their lines show them
pub shown_all : (form : Form) (lists : List (List ℕ)) (named nodes entries : ℕ) (ns : List TreeNode) → AreGood form entries lists → AllByRecursion (λ node. FitsRecord nodes entries node × HasRecordFields node) ns → AreNamed form lists named ns
    → AllByRecursion (λ node. FitsRecord nodes (width form entries) (shown form lists node) × HasRecordFields (shown form lists node)) ns
unfolding AreNamed
shown_all form lists named nodes entries [] good h k = tt
shown_all form lists named nodes entries (n ∷ ns) good h k =
    let w = shown-well form lists named nodes entries n good h.0.0 h.0.1 k.0 in
    ((w.fits, w.fields), shown_all form lists (named_behind form lists named n) nodes entries ns good h.1 k.1)

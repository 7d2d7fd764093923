-- Each line is read exactly where it is written so.
use Rattle.std.proofs.Common.{
  ◌≡◌,
  ℕ,
  zero,
  suc,
  ◌-◌,
  ◌^◌,
  ◌<◌,
  ◌≤◌,
  ◌==◌,
  ◌&&◌,
  ◌⊎◌,
  inl,
  inr,
  nat_lt,
  nat_le,
  not,
  Bool,
  true,
  false,
  true≢false,
  cond,
  List,
  [],
  ◌∷◌,
  ◌++◌,
  length,
  take,
  drop,
  map,
  codes,
  Option,
  Some,
  None,
  refl,
  sym,
  ap,
  subst,
  ◌∙◌,
  append_assoc,
  length-append,
  ℤ,
  pos,
  negsuc,
  arith,
}
use Rattle.std.specs.Prelude.{IfSome, MatchOption}
use Rattle.std.specs.Option.{option_map}
use Rattle.std.specs.List.{AllByRecursion}
use Rattle.std.specs.Str.{bytes_eq}
use Rattle.std.proofs.lemmas.Bool.{ne_eqb, eqb-true, eq-eqb, cases_Bool, and_parts, and_from, ltb-true, lt-ltb, leb-true, le-leb}
use Rattle.std.proofs.lemmas.List.{length-map, append-nil, take_at, drop_at, take-append-drop}
use Rattle.std.proofs.lemmas.Option.{cond_some}
use Rattle.std.proofs.lemmas.Slice.Eq.{bytes_eq-Decides}
use Rattle.scaled_numbers.specs.Canonical.{grains_text}
use Rattle.plan_base.specs.declared.ids.ArcId.{ArcId}
use Rattle.plan_base.specs.declared.limits.TheConstants.{MAX_NODES, MAX_LINKS, MAX_DEMANDS, MAX_MODULES}
use Rattle.proof_tree.specs.declared.limits.TheConstants.{MAX_PATH_ARCS}
use Rattle.proof_tree.specs.declared.plan.PlanStatus.{PlanStatus}
use Rattle.proof_tree.specs.declared.plan.PlanStatus.TheVariants.{Optimal, Infeasible, Undecided}
use Rattle.cert_format.specs.declared.bodies.Sizes.{Sizes}
use Rattle.cert_format.specs.declared.form.Form.{Form}
use Rattle.cert_format.specs.declared.form.Form.TheVariants.{First, Second, Third}
use Rattle.cert_format.specs.Lists.{is_among}
use Rattle.plan_tokens.specs.Words.{◌>>=◌, numerals, row, behind, before, each, numbers_of, grains_of, numbers_after_word}
use Rattle.cert_format.specs.Grammar.{header_line, both_word, count_line, size_line, status_line, number_line, cost_line, signed_text, bound_line, arc_numbers, counted, path_line, modules_line, price_line, CanTell, AreArcs, IsBoundField}
use Rattle.cert_format.specs.Bodies.{
  only_if,
  choose,
  fixed_of,
  one_in,
  number_row,
  sizes_with,
  sizes_in,
  count_row,
  with_both,
  both_row,
  size_row,
  form_of,
  status_of,
  none_or,
  cost_allowed,
  cost_of,
  positive,
  negative,
  signed_of,
  bound_of,
  numbered_arc,
  arc_of,
  fitting_count,
  uncounted,
  path_of,
  modules_of,
  list_row,
}
use Rattle.plan_tokens.proofs.NumberWords.{then-some, map-some, behind_found, behind_takes, numbers_found, numbers_takes, each_takes, each_found}
use Rattle.plan_tokens.proofs.Digits.{grains_found, grains_takes, grains_first}

-- numbers that a row can have
abbrev pub AreSmall : List ℕ → Type 0
AreSmall ns = AllByRecursion (λ n. n < 2 ^ 128) ns

-- ---- parts

-- numbers that are read behind a word are below 2^128, and the line is the word and these numbers
pub row_takes : (word body ns : List ℕ) → numbers_after_word word body ≡ Some ns → AreSmall ns × (body ≡ row word ns)
row_takes word body ns e =
    let (rest, first, later) = then-some (behind word body) numbers_of ns e in
    let more = numbers_takes rest ns later in
    (more.0, behind_takes word body rest first ∙ ap (λ bs. word ++ bs) more.1)

-- the line of a word and numbers below 2^128 is read as these numbers
pub row_again : (word ns : List ℕ) → AreSmall ns → numbers_after_word word (row word ns) ≡ Some ns
row_again word ns h = ap (λ o. o >>= numbers_of) (behind_found word (numerals ns)) ∙ numbers_found ns h

-- a value that depends on a test is found where the test holds
pub only_true : {A : Type 0} (t : Bool) (x : A) → t ≡ true → only_if t x ≡ Some x
only_true t x e = ap (λ b. cond b (Some x) None) e

-- what a choice finds is what the first answer leads to, or the other one
pub chosen : {A B : Type 0} (o : Option A) (f : A → Option B) (other : Option B) (y : B) → choose o f other ≡ Some y → ((x : A) × (o ≡ Some x) × (f x ≡ Some y)) ⊎ (other ≡ Some y)
chosen None f other y e = inr e
chosen (Some x) f other y e = inl (x, refl, e)

-- bytes that are read as a fixed line are this line
pub fixed_takes : (line body : List ℕ) (x : Unit {0}) → fixed_of line body ≡ Some x → body ≡ line
unfolding fixed_of
fixed_takes line body x e = (bytes_eq-Decides body line).0 (cond_some (bytes_eq body line) tt x e).0

-- a fixed line is read as such
pub fixed_again : (line : List ℕ) → fixed_of line line ≡ Some tt
unfolding fixed_of
fixed_again line = only_true (bytes_eq line line) tt ((bytes_eq-Decides line line).1 refl)

-- ---- a number within bounds

-- a lone number that is read is within its bounds, and there is no other number
pub one_takes : (low high : ℕ) (ns : List ℕ) (n : ℕ) → one_in low high ns ≡ Some n → (low ≤ n) × (n ≤ high) × (ns ≡ n ∷ [])
unfolding one_in
one_takes low high [] n e = absurd cc
one_takes low high (m ∷ []) n e =
    let (test, is) = cond_some (nat_le low m && nat_le m high) m n e in
    let both = and_parts (nat_le low m) (nat_le m high) test in
    (subst (λ k. low ≤ k) is (leb-true low m both.0), subst (λ k. k ≤ high) is (leb-true m high both.1), ap (λ k. k ∷ []) is)
one_takes low high (m ∷ k ∷ ns) n e = absurd cc

-- a lone number within its bounds is read as it stands
pub one_again : (low high n : ℕ) → low ≤ n → n ≤ high → one_in low high (n ∷ []) ≡ Some n
unfolding one_in
one_again low high n above below = only_true (nat_le low n && nat_le n high) n (and_from (nat_le low n) (nat_le n high) (le-leb low n above) (le-leb n high below))

-- a number that is read behind a word is within its bounds, and the line is the word and this number
pub number_row_takes : (word : List ℕ) (low high : ℕ) (body : List ℕ) (n : ℕ) → number_row word low high body ≡ Some n → (low ≤ n) × (n ≤ high) × (body ≡ number_line word n)
unfolding number_row
number_row_takes word low high body n e =
    let (ns, first, later) = then-some (numbers_after_word word body) (one_in low high) n e in
    let one = one_takes low high ns n later in
    (one.0, one.1, (row_takes word body ns first).1 ∙ ap (row word) one.2)

-- the line of a word and a number within its bounds is read as this number
pub number_row_again : (word : List ℕ) (low high n : ℕ) → high < 2 ^ 128 → low ≤ n → n ≤ high → number_row word low high (number_line word n) ≡ Some n
unfolding number_row
number_row_again word low high n fits above below = ap (λ o. o >>= one_in low high) (row_again word (n ∷ []) (omega arith, tt)) ∙ one_again low high n above below

-- ---- the sizes

-- counts of nodes, links and demands that an instance can have
pub record AreSizes (x : ℕ × ℕ × ℕ) : Type 0 where
  pub nodes : x.0 ≤ MAX_NODES
  pub links : x.1 ≤ MAX_LINKS
  pub demands : x.2 ≤ MAX_DEMANDS

sizes-test : (n l d : ℕ) → (nat_le n MAX_NODES && nat_le l MAX_LINKS && nat_le d MAX_DEMANDS) ≡ true → AreSizes (n, l, d)
sizes-test n l d t =
    let outer = and_parts (nat_le n MAX_NODES && nat_le l MAX_LINKS) (nat_le d MAX_DEMANDS) t in
    let inner = and_parts (nat_le n MAX_NODES) (nat_le l MAX_LINKS) outer.0 in
    record { nodes = leb-true n MAX_NODES inner.0; links = leb-true l MAX_LINKS inner.1; demands = leb-true d MAX_DEMANDS outer.1 }

sizes-takes : (ns : List ℕ) (x : ℕ × ℕ × ℕ) → sizes_in ns ≡ Some x → AreSizes x × (ns ≡ x.0 ∷ x.1 ∷ x.2 ∷ [])
unfolding sizes_in
sizes-takes [] x e = absurd cc
sizes-takes (n ∷ []) x e = absurd cc
sizes-takes (n ∷ l ∷ []) x e = absurd cc
sizes-takes (n ∷ l ∷ d ∷ []) x e =
    let (test, is) = cond_some (nat_le n MAX_NODES && nat_le l MAX_LINKS && nat_le d MAX_DEMANDS) (sizes_with n l d) x e in
    (subst AreSizes is (sizes-test n l d test), ap (λ (y : ℕ × ℕ × ℕ). y.0 ∷ y.1 ∷ y.2 ∷ []) is)
sizes-takes (n ∷ l ∷ d ∷ k ∷ ns) x e = absurd cc

count-takes-line : (body : List ℕ) (x : ℕ × ℕ × ℕ) → count_row body ≡ Some x → AreSizes x × (body ≡ count_line x.0 x.1 x.2)
unfolding count_row
count-takes-line body x e =
    let (ns, first, later) = then-some (numbers_after_word (codes "SIZE") body) sizes_in x e in
    let sizes = sizes-takes ns x later in
    (sizes.0, (row_takes (codes "SIZE") body ns first).1 ∙ ap (row (codes "SIZE")) sizes.1)

count-again-line : (n l d : ℕ) → AreSizes (n, l, d) → count_row (count_line n l d) ≡ Some (n, l, d)
unfolding count_row sizes_in
count-again-line n l d s =
    ap (λ o. o >>= sizes_in) (row_again (codes "SIZE") (n ∷ l ∷ d ∷ []) (omega (arith, s.nodes), (omega (arith, s.links), (omega (arith, s.demands), tt))))
    ∙ only_true (nat_le n MAX_NODES && nat_le l MAX_LINKS && nat_le d MAX_DEMANDS) (sizes_with n l d)
    (and_from (nat_le n MAX_NODES && nat_le l MAX_LINKS) (nat_le d MAX_DEMANDS) (and_from (nat_le n MAX_NODES) (nat_le l MAX_LINKS) (le-leb n MAX_NODES s.nodes) (le-leb l MAX_LINKS s.links)) (le-leb d MAX_DEMANDS s.demands))

-- the bytes before a word at their end
before-takes : (word bytes rest : List ℕ) → before word bytes ≡ Some rest → bytes ≡ rest ++ word
unfolding before
before-takes word bytes rest e =
    let k : ℕ = length bytes - length word in
    let (test, is) = cond_some (bytes_eq (drop k bytes) word) (take k bytes) rest e in
    sym (take-append-drop k bytes) ∙ ap (λ xs. xs ++ drop k bytes) is ∙ ap (λ xs. rest ++ xs) ((bytes_eq-Decides (drop k bytes) word).0 test)

before-found : (word rest : List ℕ) → before word (rest ++ word) ≡ Some rest
unfolding before
before-found word rest =
    let k : ℕ = length (rest ++ word) - length word in
    let is : length rest ≡ k = omega (arith, length-append rest word) in
    ap (λ t. cond t (Some (take k (rest ++ word))) None) (ap (λ xs. bytes_eq xs word) (drop_at rest word k is) ∙ (bytes_eq-Decides word word).1 refl)
    ∙ ap (λ xs. Some xs) (take_at rest word k is)

before-other : (rest : List ℕ) → before (codes " ONE") (rest ++ codes " BOTH") ≡ None
unfolding before
before-other rest =
    let k : ℕ = length (rest ++ codes " BOTH") - length (codes " ONE") in
    let is : length (rest ++ 32 ∷ []) ≡ k = omega (arith, length-append rest (codes " BOTH"), length-append rest (32 ∷ [])) in
    let tail : drop k (rest ++ codes " BOTH") ≡ codes "BOTH" = ap (drop k) (sym (append_assoc rest (32 ∷ []) (codes "BOTH"))) ∙ drop_at (rest ++ 32 ∷ []) (codes "BOTH") k is in
    ap (λ t. cond t (Some (take k (rest ++ codes " BOTH"))) None) (ap (λ xs. bytes_eq xs (codes " ONE")) tail)

-- the sizes that a version can tell
pub record AreTold (form : Form) (x : Sizes) : Type 0 where
  pub sizes : AreSizes (x.nodes, x.links, x.demands)
  pub told : CanTell form x.both

abbrev size-of : Form → Sizes → List ℕ
size-of form x = size_line form x.nodes x.links x.demands x.both

-- these sizes
abbrev pub sizes_at : ℕ → ℕ → ℕ → Bool → Sizes
sizes_at n l d both = record { nodes = n; links = l; demands = d; both = both }

-- the sizes, with the word behind them that tells whether each direction of a link has a price of its own
record AreWorded (body : List ℕ) (x : Sizes) : Type 0 where
  sizes : AreSizes (x.nodes, x.links, x.demands)
  line : body ≡ count_line x.nodes x.links x.demands ++ both_word x.both

worded-takes : (both : Bool) (rest body : List ℕ) (x : Sizes) → body ≡ rest ++ both_word both → option_map (with_both both) (count_row rest) ≡ Some x → AreWorded body x
worded-takes both rest body x line e =
    let (counts, found, is) = map-some (count_row rest) (with_both both) x e in
    let c = count-takes-line rest counts found in
    subst (λ (y : Sizes). AreWorded body y) is (record { sizes = c.0; line = line ∙ ap (λ xs. xs ++ both_word both) c.1 })

both-takes : (body : List ℕ) (x : Sizes) → both_row body ≡ Some x → AreWorded body x
unfolding both_row
both-takes body x e =
    elim (chosen (before (codes " ONE") body) (λ rest. option_map (with_both false) (count_row rest)) (choose (before (codes " BOTH") body) (λ rest. option_map (with_both true) (count_row rest)) None) x e) [
      | inl (rest, first, later) ↦ worded-takes false rest body x (before-takes (codes " ONE") body rest first) later
      | inr other ↦ elim (chosen (before (codes " BOTH") body) (λ rest. option_map (with_both true) (count_row rest)) None x other) [
        | inl (rest, first, later) ↦ worded-takes true rest body x (before-takes (codes " BOTH") body rest first) later
        | inr none ↦ absurd cc
      ]
    ]

both-again : (n l d : ℕ) (both : Bool) → AreSizes (n, l, d) → both_row (count_line n l d ++ both_word both) ≡ Some (sizes_at n l d both)
unfolding both_row
both-again n l d false s =
    ap (λ o. choose o (λ rest. option_map (with_both false) (count_row rest)) (choose (before (codes " BOTH") (count_line n l d ++ codes " ONE")) (λ rest. option_map (with_both true) (count_row rest)) None)) (before-found (codes " ONE") (count_line n l d))
    ∙ ap (option_map (with_both false)) (count-again-line n l d s)
both-again n l d true s =
    ap (λ o. choose o (λ rest. option_map (with_both false) (count_row rest)) (choose (before (codes " BOTH") (count_line n l d ++ codes " BOTH")) (λ rest. option_map (with_both true) (count_row rest)) None)) (before-other (count_line n l d))
    ∙ ap (λ o. choose o (λ rest. option_map (with_both true) (count_row rest)) None) (before-found (codes " BOTH") (count_line n l d))
    ∙ ap (option_map (with_both true)) (count-again-line n l d s)

-- sizes that are read are those of an instance, the version can tell them, and the line is theirs
pub size_takes : (form : Form) (body : List ℕ) (x : Sizes) → size_row form body ≡ Some x → AreTold form x × (body ≡ size_line form x.nodes x.links x.demands x.both)
unfolding size_row
size_takes First body x e =
    let (counts, found, is) = map-some (count_row body) (with_both false) x e in
    let c = count-takes-line body counts found in
    subst (λ (y : Sizes). AreTold First y × (body ≡ size-of First y)) is (record { sizes = c.0; told = refl }, c.1 ∙ sym (append-nil (count_line counts.0 counts.1 counts.2)))
size_takes Second body x e = (let w = both-takes body x e in (record { sizes = w.sizes; told = tt }, w.line))
size_takes Third body x e = (let w = both-takes body x e in (record { sizes = w.sizes; told = tt }, w.line))

-- the line of sizes that the version can tell is read as these sizes
pub size_again : (form : Form) (n l d : ℕ) (both : Bool) → AreTold form (sizes_at n l d both) → size_row form (size_line form n l d both) ≡ Some (sizes_at n l d both)
unfolding size_row
size_again First n l d both t =
    ap (λ bs. option_map (with_both false) (count_row bs)) (append-nil (count_line n l d)) ∙ ap (option_map (with_both false)) (count-again-line n l d t.sizes) ∙ ap (λ b. Some (sizes_at n l d b)) (sym t.told)
size_again Second n l d both t = both-again n l d both t.sizes
size_again Third n l d both t = both-again n l d both t.sizes

-- ---- the version and the status

-- the first of two answers where the test holds, else the second
two-ways : {A : Type 0} (t : Bool) (x : A) (o : Option A) (s : A) → cond t (Some x) o ≡ Some s → ((t ≡ true) × (x ≡ s)) ⊎ (o ≡ Some s)
two-ways true x o s e = inl (refl, cc)
two-ways false x o s e = inr e

told : {A : Type 0} (print : A → List ℕ) (body : List ℕ) (one s : A) → bytes_eq body (print one) ≡ true → one ≡ s → body ≡ print s
told print body one s t is = (bytes_eq-Decides body (print one)).0 t ∙ ap print is

-- bytes that are the print of one of three values, the first that fits, are that of the value that is found
three-ways : {A : Type 0} (print : A → List ℕ) (body : List ℕ) (a b c s : A)
    → cond (bytes_eq body (print a)) (Some a) (cond (bytes_eq body (print b)) (Some b) (cond (bytes_eq body (print c)) (Some c) None)) ≡ Some s → body ≡ print s
three-ways print body a b c s e =
    elim (two-ways (bytes_eq body (print a)) a (cond (bytes_eq body (print b)) (Some b) (cond (bytes_eq body (print c)) (Some c) None)) s e) [
      | inl (t, is) ↦ told print body a s t is
      | inr f ↦ elim (two-ways (bytes_eq body (print b)) b (cond (bytes_eq body (print c)) (Some c) None) s f) [
        | inl (t, is) ↦ told print body b s t is
        | inr g ↦ elim (two-ways (bytes_eq body (print c)) c None s g) [
          | inl (t, is) ↦ told print body c s t is
          | inr h ↦ absurd cc
        ]
      ]
    ]

-- bytes that are read as a version are the first line of this version
pub form_takes : (body : List ℕ) (form : Form) → form_of body ≡ Some form → body ≡ header_line form
unfolding form_of
form_takes body form e = three-ways header_line body First Second Third form e

-- the first line of a version is read as this version
pub form_again : (form : Form) → form_of (header_line form) ≡ Some form
unfolding form_of
form_again First = refl
form_again Second = refl
form_again Third = refl

-- bytes that are read as a status are the line of this status
pub status_takes : (body : List ℕ) (s : PlanStatus) → status_of body ≡ Some s → body ≡ status_line s
unfolding status_of
status_takes body s e = three-ways status_line body Optimal Infeasible Undecided s e

-- the line of a status is read as this status
pub status_again : (s : PlanStatus) → status_of (status_line s) ≡ Some s
unfolding status_of
status_again Optimal = refl
status_again Infeasible = refl
status_again Undecided = refl

-- ---- the cost and the bound

-- what a word none, or something that f reads, is read as
pub none_takes : {A : Type 0} (f : List ℕ → Option A) (bytes : List ℕ) (o : Option A) → none_or f bytes ≡ Some o → MatchOption o (bytes ≡ codes "none") (λ x. f bytes ≡ Some x)
none_takes {A} f bytes o e =
    elim (cases_Bool (bytes_eq bytes (codes "none"))) [
      | inl t ↦ (let is : Some None ≡ Some o = sym (ap (λ b. cond b (Some None) (option_map (λ x. Some x) (f bytes))) t) ∙ e in none o is ((bytes_eq-Decides bytes (codes "none")).0 t))
      | inr g ↦ (let (x, first, is) = map-some (f bytes) (λ x. Some x) o (sym (ap (λ b. cond b (Some None) (option_map (λ x. Some x) (f bytes))) g) ∙ e) in subst (λ o. MatchOption o (bytes ≡ codes "none") (λ x. f bytes ≡ Some x)) is first)
    ]
  where
    none : (o : Option A) → Some None ≡ Some o → bytes ≡ codes "none" → MatchOption o (bytes ≡ codes "none") (λ x. f bytes ≡ Some x)
    none None is t = t
    none (Some x) is t = absurd cc

-- where the word none may stand as well, other bytes are read as they are without it
pub some_again : {A : Type 0} (f : List ℕ → Option A) (bytes : List ℕ) (x : A) → bytes_eq bytes (codes "none") ≡ false → f bytes ≡ Some x → none_or f bytes ≡ Some (Some x)
some_again f bytes x other e = ap (λ b. cond b (Some None) (option_map (λ x. Some x) (f bytes))) other ∙ ap (option_map (λ x. Some x)) e

-- a digit begins no word none
pub not_none : (v : ℕ) → v < 2 ^ 128 → bytes_eq (grains_text v 12) (codes "none") ≡ false
not_none v small =
    let (c, rest, is, range) = grains_first v small in
    let differs : (c == 110) ≡ false = ne_eqb c 110 (λ e. absurd (omega arith)) in
    ap (λ bs. bytes_eq bs (codes "none")) is ∙ ap (λ b. b && bytes_eq rest (111 ∷ 110 ∷ 101 ∷ [])) differs

-- the cost that the status allows
pub record IsCost (status : PlanStatus) (cost : Option ℕ) : Type 0 where
  pub allowed : cost_allowed status cost ≡ true
  pub small : IfSome cost (λ c. c < 2 ^ 128)

-- a cost that is read, or none, is allowed by the status and below 2^128, and the line is its own
pub cost_takes : (status : PlanStatus) (body : List ℕ) (cost : Option ℕ) → cost_of status body ≡ Some cost → IsCost status cost × (body ≡ cost_line cost)
unfolding cost_of
cost_takes status body cost e =
    let (found, before, test) = then-some (behind (codes "COST ") body >>= none_or grains_of) (λ cost. only_if (cost_allowed status cost) cost) cost e in
    let (rest, first, later) = then-some (behind (codes "COST ") body) (none_or grains_of) found before in
    let (allowed, is) = cond_some (cost_allowed status found) found cost test in
    let line : body ≡ codes "COST " ++ rest = behind_takes (codes "COST ") body rest first in
    by cost rest (subst (λ c. cost_allowed status c ≡ true) is allowed) (none_takes grains_of rest cost (later ∙ ap (λ c. Some c) is)) line
  where
    by : (cost : Option ℕ) (rest : List ℕ) → cost_allowed status cost ≡ true → MatchOption cost (rest ≡ codes "none") (λ c. grains_of rest ≡ Some c) → body ≡ codes "COST " ++ rest → IsCost status cost × (body ≡ cost_line cost)
    by None rest allowed m line = (record { allowed = allowed; small = tt }, line ∙ ap (λ bs. codes "COST " ++ bs) m)
    by (Some c) rest allowed m line = (let g = grains_takes rest c m in (record { allowed = allowed; small = g.0 }, line ∙ ap (λ bs. codes "COST " ++ bs) g.1))

-- the line of a cost, or of none, that the status allows is read as it
pub cost_again : (status : PlanStatus) (cost : Option ℕ) → IsCost status cost → cost_of status (cost_line cost) ≡ Some cost
unfolding cost_of behind
cost_again status None c = only_true (cost_allowed status None) None c.allowed
cost_again status (Some cost) c =
    ap (λ o. o >>= none_or grains_of >>= λ cost. only_if (cost_allowed status cost) cost) (behind_found (codes "COST ") (grains_text cost 12))
    ∙ ap (λ o. o >>= λ cost. only_if (cost_allowed status cost) cost) (some_again grains_of (grains_text cost 12) cost (not_none cost c.small) (grains_found (grains_text cost 12) cost c.small refl))
    ∙ only_true (cost_allowed status (Some cost)) (Some cost) c.allowed

-- a bound that is read fits its field, and the bytes are its decimal, with a minus where it is negative
pub signed_takes : (bytes : List ℕ) (b : ℤ) → signed_of bytes ≡ Some b → IsBoundField b × (bytes ≡ signed_text b)
unfolding signed_of
signed_takes bytes b e =
    elim (chosen (behind (codes "-") bytes) (λ rest. grains_of rest >>= negative) (grains_of bytes >>= positive) b e) [
      | inl (rest, first, later) ↦ (let (n, grains, sign) = then-some (grains_of rest) negative b later in below n rest (behind_takes (codes "-") bytes rest first) (grains_takes rest n grains).1 sign)
      | inr other ↦ (let (n, grains, sign) = then-some (grains_of bytes) positive b other in above n (grains_takes bytes n grains).1 sign)
    ]
  where
    below : (n : ℕ) (rest : List ℕ) → bytes ≡ codes "-" ++ rest → rest ≡ grains_text n 12 → negative n ≡ Some b → IsBoundField b × (bytes ≡ signed_text b)
    below zero rest line text sign = absurd cc
    below (suc n) rest line text sign =
        let (test, is) = cond_some (nat_lt n (2 ^ 127)) (negsuc n) b sign in
        subst (λ b. IsBoundField b × (bytes ≡ signed_text b)) is (ltb-true n (2 ^ 127) test, line ∙ ap (λ bs. 45 ∷ bs) text)

    above : (n : ℕ) → bytes ≡ grains_text n 12 → positive n ≡ Some b → IsBoundField b × (bytes ≡ signed_text b)
    above n text sign =
        let (test, is) = cond_some (nat_lt n (2 ^ 127)) (pos n) b sign in
        subst (λ b. IsBoundField b × (bytes ≡ signed_text b)) is (ltb-true n (2 ^ 127) test, text)

no-minus : (v : ℕ) → v < 2 ^ 128 → behind (codes "-") (grains_text v 12) ≡ None
unfolding behind
no-minus v small =
    let (c, rest, is, range) = grains_first v small in
    let differs : (c == 45) ≡ false = ne_eqb c 45 (λ e. absurd (omega arith)) in
    ap (behind (codes "-")) is ∙ ap (λ b. cond b (Some rest) None) differs

-- the decimal of a bound that fits its field, with its minus, is read as this bound
pub signed_again : (b : ℤ) → IsBoundField b → signed_of (signed_text b) ≡ Some b
unfolding signed_of behind
signed_again (pos n) small =
    ap (λ o. choose o (λ rest. grains_of rest >>= negative) (grains_of (grains_text n 12) >>= positive)) (no-minus n (omega arith))
    ∙ ap (λ o. o >>= positive) (grains_found (grains_text n 12) n (omega arith) refl)
    ∙ only_true (nat_lt n (2 ^ 127)) (pos n) (lt-ltb n (2 ^ 127) small)
signed_again (negsuc n) small =
    ap (λ o. o >>= negative) (grains_found (grains_text (suc n) 12) (suc n) (omega arith) refl)
    ∙ only_true (nat_lt n (2 ^ 127)) (negsuc n) (lt-ltb n (2 ^ 127) small)

-- a bound that is read, or none, fits its field, and the line is its own
pub bound_takes : (body : List ℕ) (b : Option ℤ) → bound_of body ≡ Some b → IfSome b IsBoundField × (body ≡ bound_line b)
unfolding bound_of
bound_takes body b e =
    let (rest, first, later) = then-some (behind (codes "BOUND ") body) (none_or signed_of) b e in
    by b rest (none_takes signed_of rest b later) (behind_takes (codes "BOUND ") body rest first)
  where
    by : (b : Option ℤ) (rest : List ℕ) → MatchOption b (rest ≡ codes "none") (λ x. signed_of rest ≡ Some x) → body ≡ codes "BOUND " ++ rest → IfSome b IsBoundField × (body ≡ bound_line b)
    by None rest m line = (tt, line ∙ ap (λ bs. codes "BOUND " ++ bs) m)
    by (Some x) rest m line = (let g = signed_takes rest x m in (g.0, line ∙ ap (λ bs. codes "BOUND " ++ bs) g.1))

signed-not-none : (b : ℤ) → IsBoundField b → bytes_eq (signed_text b) (codes "none") ≡ false
signed-not-none (pos n) small = not_none n (omega arith)
signed-not-none (negsuc n) small = refl

-- the line of a bound that fits its field, or of none, is read as it
pub bound_again : (b : Option ℤ) → IfSome b IsBoundField → bound_of (bound_line b) ≡ Some b
unfolding bound_of behind
bound_again None h = refl
bound_again (Some b) h =
    ap (λ o. o >>= none_or signed_of) (behind_found (codes "BOUND ") (signed_text b))
    ∙ some_again signed_of (signed_text b) b (signed-not-none b h) (signed_again b h)

-- ---- paths and counts

-- numbers that are read behind their count are few enough, and stand there with this count in front
pub uncounted_takes : (most : ℕ) (ns ms : List ℕ) → uncounted most ns ≡ Some ms → (length ms ≤ most) × (ns ≡ counted ms)
uncounted_takes most [] ms e = absurd cc
uncounted_takes most (m ∷ ns) ms e =
    let (test, is) = cond_some (m == length ns && nat_le m most) ns ms e in
    let both = and_parts (m == length ns) (nat_le m most) test in
    let same : m ≡ length ns = eqb-true m (length ns) both.0 in
    (subst (λ xs. length xs ≤ most) is (subst (λ k. k ≤ most) same (leb-true m most both.1)), ap (λ k. k ∷ ns) same ∙ ap counted is)

-- few enough numbers with their count in front are read as these numbers
pub uncounted_again : (most : ℕ) (ms : List ℕ) → length ms ≤ most → uncounted most (counted ms) ≡ Some ms
uncounted_again most ms few = only_true (length ms == length ms && nat_le (length ms) most) ms (and_from (length ms == length ms) (nat_le (length ms) most) (eq-eqb (length ms) (length ms) refl) (le-leb (length ms) most few))

-- an arc that is read from a number has this number, and it fits its field
pub arc_takes : (n : ℕ) (a : ArcId) → arc_of n ≡ Some a → (a.0 < 2 ^ 32) × (n ≡ a.0)
arc_takes n a e =
    let (test, is) = cond_some (nat_lt n (2 ^ 32)) (numbered_arc n) a e in
    let same : n ≡ a.0 = ap (λ (x : ArcId). x.0) is in
    (subst (λ k. k < 2 ^ 32) same (ltb-true n (2 ^ 32) test), same)

-- the number of an arc, where it fits its field, is read as this arc
pub arc_again : (a : ArcId) → a.0 < 2 ^ 32 → arc_of a.0 ≡ Some a
arc_again a small = only_true (nat_lt a.0 (2 ^ 32)) a (lt-ltb a.0 (2 ^ 32) small)

count-takes : (n c : ℕ) → fitting_count n ≡ Some c → (c < 2 ^ 64) × (n ≡ c)
count-takes n c e =
    let (test, same) = cond_some (nat_lt n (2 ^ 64)) n c e in
    (subst (λ k. k < 2 ^ 64) same (ltb-true n (2 ^ 64) test), same)

count-again : (c : ℕ) → c < 2 ^ 64 → fitting_count c ≡ Some c
count-again c small = only_true (nat_lt c (2 ^ 64)) c (lt-ltb c (2 ^ 64) small)

map-same : (ns : List ℕ) → map (λ n. n) ns ≡ ns
map-same [] = refl
map-same (n ∷ ns) = ap (λ ms. n ∷ ms) (map-same ns)

-- the numbers of arcs that fit their fields are below 2^128
pub arcs_small : (arcs : List ArcId) → AreArcs arcs → AreSmall (arc_numbers arcs)
arcs_small [] h = tt
arcs_small (a ∷ arcs) h = (omega (arith, h.0), arcs_small arcs h.1)

-- counts below 2^64 are numbers below 2^128
pub counts_small : (counts : List ℕ) → AllByRecursion (λ c. c < 2 ^ 64) counts → AreSmall counts
counts_small [] h = tt
counts_small (c ∷ counts) h = (omega (arith, h.0), counts_small counts h.1)

-- a path that is read is short enough and of arcs that fit their fields, and the line is its own
pub path_takes : (body : List ℕ) (arcs : List ArcId) → path_of body ≡ Some arcs → (length arcs ≤ MAX_PATH_ARCS) × AreArcs arcs × (body ≡ path_line arcs)
unfolding path_of
path_takes body arcs e =
    let (ms, before, last) = then-some (numbers_after_word (codes "PATH") body >>= uncounted MAX_PATH_ARCS) (each arc_of) arcs e in
    let (ns, first, middle) = then-some (numbers_after_word (codes "PATH") body) (uncounted MAX_PATH_ARCS) ms before in
    let few = uncounted_takes MAX_PATH_ARCS ns ms middle in
    let each_arc = each_takes arc_of (λ (a : ArcId). a.0 < 2 ^ 32) (λ (a : ArcId). a.0) arc_takes ms arcs last in
    (omega (arith, few.0, ap length each_arc.1, length-map arcs (λ (a : ArcId). a.0)), each_arc.0, (row_takes (codes "PATH") body ns first).1 ∙ ap (row (codes "PATH")) (few.1 ∙ ap counted each_arc.1))

-- the line of a path that is short enough and of arcs that fit their fields is read as this path
pub path_again : (arcs : List ArcId) → length arcs ≤ MAX_PATH_ARCS → AreArcs arcs → path_of (path_line arcs) ≡ Some arcs
unfolding path_of
path_again arcs few h =
    let long : length (arc_numbers arcs) ≤ MAX_PATH_ARCS = omega (arith, few, length-map arcs (λ (a : ArcId). a.0)) in
    ap (λ o. o >>= uncounted MAX_PATH_ARCS >>= each arc_of) (row_again (codes "PATH") (counted (arc_numbers arcs)) (omega (arith, long), arcs_small arcs h))
    ∙ ap (λ o. o >>= each arc_of) (uncounted_again MAX_PATH_ARCS (arc_numbers arcs) long)
    ∙ each_found arc_of (λ (a : ArcId). a.0 < 2 ^ 32) (λ (a : ArcId). a.0) arc_again arcs h

-- counts of modules that are read are few enough and below 2^64, and the line is theirs
pub modules_takes : (body counts : List ℕ) → modules_of body ≡ Some counts → (length counts ≤ MAX_MODULES) × AllByRecursion (λ c. c < 2 ^ 64) counts × (body ≡ modules_line counts)
unfolding modules_of
modules_takes body counts e =
    let (ms, before, last) = then-some (numbers_after_word (codes "MODULES") body >>= uncounted MAX_MODULES) (each fitting_count) counts e in
    let (ns, first, middle) = then-some (numbers_after_word (codes "MODULES") body) (uncounted MAX_MODULES) ms before in
    let few = uncounted_takes MAX_MODULES ns ms middle in
    let each_count = each_takes fitting_count (λ c. c < 2 ^ 64) (λ c. c) count-takes ms counts last in
    let same : ms ≡ counts = each_count.1 ∙ map-same counts in
    (subst (λ xs. length xs ≤ MAX_MODULES) same few.0, each_count.0, (row_takes (codes "MODULES") body ns first).1 ∙ ap (row (codes "MODULES")) (few.1 ∙ ap counted same))

-- the line of few enough counts of modules below 2^64 is read as these counts
pub modules_again : (counts : List ℕ) → length counts ≤ MAX_MODULES → AllByRecursion (λ c. c < 2 ^ 64) counts → modules_of (modules_line counts) ≡ Some counts
unfolding modules_of
modules_again counts few h =
    ap (λ o. o >>= uncounted MAX_MODULES >>= each fitting_count) (row_again (codes "MODULES") (counted counts) (omega (arith, few), counts_small counts h))
    ∙ ap (λ o. o >>= each fitting_count) (uncounted_again MAX_MODULES counts few)
    ∙ ap (each fitting_count) (sym (map-same counts))
    ∙ each_found fitting_count (λ c. c < 2 ^ 64) (λ c. c) count-again counts h

-- ---- price lists

-- a list that can stand behind these
pub record IsNewList (entries : ℕ) (lists : List (List ℕ)) (list : List ℕ) : Type 0 where
  pub count : length list ≡ entries
  pub small : AreSmall list
  pub fresh : is_among lists list ≡ false

-- a price list that is read can stand behind those before it, and the line is its own
pub list_takes : (entries : ℕ) (lists : List (List ℕ)) (body list : List ℕ) → list_row entries lists body ≡ Some list → IsNewList entries lists list × (body ≡ price_line list)
unfolding list_row
list_takes entries lists body list e =
    let (ns, first, test) = then-some (numbers_after_word (codes "P") body) (λ ns. only_if (length ns == entries && not (is_among lists ns)) ns) list e in
    let (both, same) = cond_some (length ns == entries && not (is_among lists ns)) ns list test in
    let parts = and_parts (length ns == entries) (not (is_among lists ns)) both in
    let r = row_takes (codes "P") body ns first in (
      subst (IsNewList entries lists) same (record { count = eqb-true (length ns) entries parts.0; small = r.0; fresh = not-true (is_among lists ns) parts.1 }),
      r.1 ∙ ap price_line same,
    )
  where
    not-true : (b : Bool) → not b ≡ true → b ≡ false
    not-true true e = absurd (true≢false (sym e))
    not-true false e = refl

-- the line of a price list that can stand behind those before it is read as this list
pub list_again : (entries : ℕ) (lists : List (List ℕ)) (list : List ℕ) → IsNewList entries lists list → list_row entries lists (price_line list) ≡ Some list
unfolding list_row
list_again entries lists list n =
    ap (λ o. o >>= λ ns. only_if (length ns == entries && not (is_among lists ns)) ns) (row_again (codes "P") list n.small)
    ∙ only_true (length list == entries && not (is_among lists list)) list (and_from (length list == entries) (not (is_among lists list)) (eq-eqb (length list) entries n.count) (ap not n.fresh))

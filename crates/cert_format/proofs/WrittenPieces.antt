-- What is appended piece by piece is the whole.
use Rattle.std.proofs.Common.{◌≡◌, ℕ, zero, suc, ◌+◌, ◌<◌, ◌≤◌, Bool, true, false, List, [], ◌∷◌, ◌++◌, length, get_or, take, drop, map, decimal, codes, Some, None, refl, sym, ap, subst, ◌∙◌, append_assoc, arith}
use Rattle.std.proofs.lemmas.List.{take_more, drop_more, drop_all, append-nil, map-append}
use Rattle.std.proofs.lemmas.List.Concat.{flat_map-append}
use Rattle.plan_base.specs.declared.path.Design.{Design}
use Rattle.proof_tree.specs.declared.plan.Plan.{Plan}
use Rattle.std.specs.Prelude.{slice_get}
use Rattle.std.specs.List.{AllByRecursion}
use Rattle.proof_tree.specs.declared.tree.TreeNode.{TreeNode}
use Rattle.cert_format.specs.declared.form.Form.{Form}
use Rattle.cert_format.specs.declared.form.Form.TheVariants.{First, Second, Third}
use Rattle.plan_tokens.specs.Lines.{whole, line_text, text_of}
use Rattle.cert_format.specs.Versions.{has_thirds, written_form}
use Rattle.cert_format.specs.Lists.{lists_of}
use Rattle.plan_tokens.specs.Words.{numerals, row}
use Rattle.cert_format.specs.Grammar.{header_line, size_line, status_line, cost_line, path_line, modules_line, price_line, members, design_lines, bound_lines, cut_lines, head_lines, list_lines, price_lines, front_lines, end_line, plan_text, written_text}
use Rattle.cert_format.specs.Written.{lines_text, numbered_lines, written_tree}
use Rattle.cert_format.proofs.VersionLaws.{not_first}

numerals-append : (ns ms : List ℕ) → numerals (ns ++ ms) ≡ numerals ns ++ numerals ms
numerals-append [] ms = refl
numerals-append (n ∷ ns) ms = ap (λ bs. 32 ∷ bs) (ap (λ bs. decimal n ++ bs) (numerals-append ns ms) ∙ sym (append_assoc (decimal n) (numerals ns) (numerals ms)))

-- the first numbers, with the next one appended behind them, are the first numbers and this one
pub numerals_more : (old : List ℕ) (ns : List ℕ) (i d : ℕ) → i < length ns → (old ++ numerals (take i ns)) ++ (32 ∷ decimal (get_or ns i d)) ≡ old ++ numerals (take (i + 1) ns)
numerals_more old ns i d lt =
    append_assoc old (numerals (take i ns)) (32 ∷ decimal (get_or ns i d))
    ∙ ap (λ bs. old ++ bs) (ap (λ bs. numerals (take i ns) ++ (32 ∷ bs)) (sym (append-nil (decimal (get_or ns i d)))) ∙ sym (numerals-append (take i ns) (get_or ns i d ∷ [])) ∙ ap numerals (sym (take_more ns i d lt)))

-- a word, numbers and a line end, appended one after the other, are the whole line
pub row_pieces : (old word : List ℕ) (ns : List ℕ) → ((old ++ word) ++ numerals ns) ++ 10 ∷ [] ≡ old ++ line_text (whole (row word ns))
row_pieces old word ns = simp append_assoc

-- a number appended behind a count and numbers joins these numbers
pub items_more : (old : List ℕ) (n : ℕ) (ns : List ℕ) (x : ℕ) → (old ++ (n ∷ ns)) ++ x ∷ [] ≡ old ++ (n ∷ (ns ++ x ∷ []))
items_more old n ns x = append_assoc old (n ∷ ns) (x ∷ [])

-- ---- members

-- a node that is in the set is the next of its nodes, and those behind it follow
pub members_in : (front : List ℕ) (flags : List Bool) (i : ℕ) (d : Bool) → i < length flags → get_or flags i d ≡ true → front ++ members i (drop i flags) ≡ (front ++ i ∷ []) ++ members (i + 1) (drop (i + 1) flags)
unfolding members
members_in front flags i d lt e =
    let next : suc i ≡ i + 1 = omega arith in
    ap (λ fs. front ++ members i fs) (drop_more flags i d lt ∙ ap (λ f. f ∷ drop (i + 1) flags) e)
    ∙ ap (λ k. front ++ (i ∷ members k (drop (i + 1) flags))) next
    ∙ sym (append_assoc front (i ∷ []) (members (i + 1) (drop (i + 1) flags)))

-- a node that is not in the set adds nothing to its nodes
pub members_out : (front : List ℕ) (flags : List Bool) (i : ℕ) (d : Bool) → i < length flags → get_or flags i d ≡ false → front ++ members i (drop i flags) ≡ front ++ members (i + 1) (drop (i + 1) flags)
unfolding members
members_out front flags i d lt e =
    let next : suc i ≡ i + 1 = omega arith in
    ap (λ fs. front ++ members i fs) (drop_more flags i d lt ∙ ap (λ f. f ∷ drop (i + 1) flags) e)
    ∙ ap (λ k. front ++ members k (drop (i + 1) flags)) next

-- behind the last node nothing is added to the nodes of the set
pub members_end : (front : List ℕ) (flags : List Bool) (i : ℕ) → length flags ≤ i → front ++ members i (drop i flags) ≡ front
unfolding members
members_end front flags i ge = ap (λ fs. front ++ members i fs) (drop_all i flags ge) ∙ append-nil front

-- ---- lines

-- the bytes of lines and further lines are those of the lines and then those of the further ones
pub lines-append : (xs ys : List (List ℕ)) → lines_text (xs ++ ys) ≡ lines_text xs ++ lines_text ys
lines-append xs ys = ap text_of (map-append whole xs ys) ∙ flat_map-append line_text (map whole xs) (map whole ys)

-- the lines of the first items, and then the line of the next one, are those of the first items with this one
pub lines_more : {A : Type 0} (print : A → List ℕ) (old : List ℕ) (xs : List A) (i : ℕ) (d : A) → i < length xs → (old ++ lines_text (map print (take i xs))) ++ line_text (whole (print (get_or xs i d))) ≡ old ++ lines_text (map print (take (i + 1) xs))
lines_more print old xs i d lt =
    append_assoc old (lines_text (map print (take i xs))) (line_text (whole (print (get_or xs i d))))
    ∙ ap (λ bs. old ++ bs) (ap (λ bs. lines_text (map print (take i xs)) ++ bs) (sym (append-nil (line_text (whole (print (get_or xs i d))))))
    ∙ sym (lines-append (map print (take i xs)) (print (get_or xs i d) ∷ []))
    ∙ ap lines_text (sym (ap (map print) (take_more xs i d lt) ∙ map-append print (take i xs) (get_or xs i d ∷ []))))

-- the line of a cost and those of paths and counts, appended one after the other, are those of the design
pub design_pieces : (old : List ℕ) (cost : ℕ) (d : Design) → ((old ++ line_text (whole (cost_line (Some cost)))) ++ lines_text (map path_line d.paths)) ++ lines_text (map modules_line d.counts) ≡ old ++ lines_text (design_lines (Some (cost, d)))
unfolding design_lines
design_pieces old cost d =
    let cost_text : List ℕ = line_text (whole (cost_line (Some cost))) in
    append_assoc (old ++ cost_text) (lines_text (map path_line d.paths)) (lines_text (map modules_line d.counts))
    ∙ append_assoc old cost_text (lines_text (map path_line d.paths) ++ lines_text (map modules_line d.counts))
    ∙ ap (λ bs. old ++ (cost_text ++ bs)) (sym (lines-append (map path_line d.paths) (map modules_line d.counts)))

regroup-head : (o a b c d e : List ℕ) → ((((o ++ a) ++ b) ++ c) ++ d) ++ e ≡ o ++ (a ++ (b ++ (c ++ (d ++ (e ++ [])))))
regroup-head o a b c d e = simp (append_assoc, append-nil)

-- a word, numbers, and other bytes with a line end, appended one after the other, are the whole line
pub size_pieces : (old word tail : List ℕ) (ns : List ℕ) → ((old ++ word) ++ numerals ns) ++ line_text (whole tail) ≡ old ++ line_text (whole (row word ns ++ tail))
size_pieces old word tail ns = simp append_assoc

-- the first five lines, appended one after the other, are those of the plan
pub head_pieces : (form : Form) (old : List ℕ) (plan : Plan) → ((((old ++ line_text (whole (header_line form))) ++ line_text (whole (size_line form plan.nodes plan.links plan.demands plan.both))) ++ line_text (whole (status_line plan.status)))
    ++ line_text (whole (row (codes "BUDGET") (plan.budget ∷ [])))) ++ line_text (whole (row (codes "EXAMINED") (plan.examined ∷ []))) ≡ old ++ lines_text (head_lines form plan)
unfolding head_lines
head_pieces form old plan = regroup-head old (line_text (whole (header_line form))) (line_text (whole (size_line form plan.nodes plan.links plan.demands plan.both))) (line_text (whole (status_line plan.status)))
    (line_text (whole (row (codes "BUDGET") (plan.budget ∷ [])))) (line_text (whole (row (codes "EXAMINED") (plan.examined ∷ []))))

-- ---- price lists and the tree

take-next : {A : Type 0} (xs : List A) (n : ℕ) (x : A) → Some x ≡ slice_get xs n → take (n + 1) xs ≡ take n xs ++ x ∷ []
take-next [] n x e = absurd cc
take-next (y ∷ xs) zero x e = (let same : x ≡ y = cc in ap (λ z. z ∷ []) (sym same))
take-next (y ∷ xs) (suc n) x e = (let next : suc n + 1 ≡ suc (n + 1) = omega arith in ap (λ k. take k (y ∷ xs)) next ∙ ap (λ zs. y ∷ zs) (take-next xs n x e))

joined : {A : Type 0} (P : A → Type 0) (xs : List A) (x : A) → AllByRecursion P xs → P x → AllByRecursion P (xs ++ x ∷ [])
joined P [] x all px = (px, tt)
joined P (y ∷ xs) x all px = (all.0, joined P xs x all.1 px)

-- the lines of the first price lists, and then that of the next one, are those of the first lists with it
pub lists_more : (old : List ℕ) (lists : List (List ℕ)) (n : ℕ) (list : List ℕ) → Some list ≡ slice_get lists n → (old ++ lines_text (map price_line (take n lists))) ++ line_text (whole (price_line list)) ≡ old ++ lines_text (map price_line (take (n + 1) lists))
lists_more old lists n list e =
    append_assoc old (lines_text (map price_line (take n lists))) (line_text (whole (price_line list)))
    ∙ ap (λ bs. old ++ bs) (ap (λ bs. lines_text (map price_line (take n lists)) ++ bs) (sym (append-nil (line_text (whole (price_line list)))))
    ∙ sym (lines-append (map price_line (take n lists)) (price_line list ∷ []))
    ∙ ap lines_text (sym (ap (map price_line) (take-next lists n list e) ∙ map-append price_line (take n lists) (list ∷ []))))

-- what holds of the first lists and of the next one holds of the first lists with this one
pub fields_listed : (P : List ℕ → Type 0) (lists : List (List ℕ)) (n : ℕ) (list : List ℕ) → Some list ≡ slice_get lists n → AllByRecursion P (take n lists) → P list → AllByRecursion P (take (n + 1) lists)
fields_listed P lists n list e all p = subst (AllByRecursion P) (sym (take-next lists n list e)) (joined P (take n lists) list all p)

-- where no list has this number, the first lists, so many, are all
pub taken_all : (lists : List (List ℕ)) (n : ℕ) → None ≡ slice_get lists n → take n lists ≡ lists
taken_all [] n e = by n
  where
    by : (n : ℕ) → take {A = List ℕ} n [] ≡ []
    by zero = refl
    by (suc n) = refl
taken_all (x ∷ lists) zero e = absurd cc
taken_all (x ∷ lists) (suc n) e = ap (λ ls. x ∷ ls) (taken_all lists n e)

-- where no list has this number, what holds of the first lists, so many, holds of all
pub fields_all : (P : List ℕ → Type 0) (lists : List (List ℕ)) (n : ℕ) → None ≡ slice_get lists n → AllByRecursion P (take n lists) → AllByRecursion P lists
fields_all P lists n e all = subst (AllByRecursion P) (taken_all lists n e) all

-- where no list is left, the line with their count and the lines so far are those of all price lists
pub lists_all : (old : List ℕ) (lists : List (List ℕ)) (n : ℕ) → None ≡ slice_get lists n → (old ++ line_text (whole (row (codes "PRICES") (length lists ∷ [])))) ++ lines_text (map price_line (take n lists)) ≡ old ++ lines_text (list_lines (length lists) lists)
lists_all old lists n e =
    ap (λ ls. (old ++ line_text (whole (row (codes "PRICES") (length lists ∷ [])))) ++ lines_text (map price_line ls)) (taken_all lists n e)
    ∙ append_assoc old (line_text (whole (row (codes "PRICES") (length lists ∷ [])))) (lines_text (map price_line lists))

-- the lines of price lists, of the record count and of the records, appended in turn, are those of the tree
pub tree_pieces : (old : List ℕ) (nodes : List TreeNode) (lists : List (List ℕ)) (count : ℕ) → lists ≡ lists_of nodes → count ≡ length nodes
    → ((old ++ lines_text (list_lines (length lists) lists)) ++ line_text (whole (row (codes "TREE") (count ∷ [])))) ++ lines_text (numbered_lines lists nodes) ≡ old ++ lines_text (written_tree nodes)
tree_pieces old nodes lists count same is =
    let pieces : List (List ℕ) → ℕ → List ℕ = λ ls n. ((old ++ lines_text (list_lines (length ls) ls)) ++ line_text (whole (row (codes "TREE") (n ∷ [])))) ++ lines_text (numbered_lines ls nodes) in
    let all : List (List ℕ) = lists_of nodes in
    let tree : List ℕ = row (codes "TREE") (length nodes ∷ []) in
    ap (λ ls. pieces ls count) same ∙ ap (pieces all) is
    ∙ append_assoc (old ++ lines_text (list_lines (length all) all)) (line_text (whole tree)) (lines_text (numbered_lines all nodes))
    ∙ append_assoc old (lines_text (list_lines (length all) all)) (lines_text (tree ∷ numbered_lines all nodes))
    ∙ ap (λ bs. old ++ bs) (sym (lines-append (list_lines (length all) all) (tree ∷ numbered_lines all nodes)))

-- the lines of a plan, piece by piece, where these stand for its price lists and its tree
module _ (form : Form) (plan : Plan) where
  abbrev pieces : List (List ℕ) → List ℕ
  pieces tree = ((((([] ++ lines_text (head_lines form plan)) ++ lines_text (design_lines plan.design)) ++ lines_text (bound_lines plan.status plan.bound)) ++ lines_text (cut_lines form plan.cuts)) ++ lines_text tree) ++ line_text (whole (codes "END"))

  joined-pieces : (p t : List (List ℕ)) → pieces (p ++ t) ≡ lines_text ((head_lines form plan ++ (design_lines plan.design ++ (bound_lines plan.status plan.bound ++ (cut_lines form plan.cuts ++ p)))) ++ (t ++ end_line ∷ []))
  joined-pieces p t =
      let h : List (List ℕ) = head_lines form plan in
      let d : List (List ℕ) = design_lines plan.design in
      let b : List (List ℕ) = bound_lines plan.status plan.bound in
      let c : List (List ℕ) = cut_lines form plan.cuts in
      let e : List ℕ = end_line in
      ap (λ bs. ((((lines_text h ++ lines_text d) ++ lines_text b) ++ lines_text c) ++ bs) ++ line_text (whole e)) (lines-append p t)
      ∙ sym (lines-append (h ++ (d ++ (b ++ (c ++ p)))) (t ++ e ∷ [])
      ∙ ap (λ bs. bs ++ lines_text (t ++ e ∷ [])) (lines-append h (d ++ (b ++ (c ++ p))) ∙ ap (λ bs. lines_text h ++ bs) (lines-append d (b ++ (c ++ p)) ∙ ap (λ bs. lines_text d ++ bs) (lines-append b (c ++ p) ∙ ap (λ bs. lines_text b ++ bs) (lines-append c p))))
      ∙ ap (λ bs. (lines_text h ++ (lines_text d ++ (lines_text b ++ (lines_text c ++ lines_text p)))) ++ bs) (lines-append t (e ∷ []))
      ∙ regroup (lines_text h) (lines_text d) (lines_text b) (lines_text c) (lines_text p) (lines_text t) (line_text (whole e)))
    where
      regroup : (h d b c p t e : List ℕ) → (h ++ (d ++ (b ++ (c ++ p)))) ++ (t ++ (e ++ [])) ≡ ((((h ++ d) ++ b) ++ c) ++ (p ++ t)) ++ e
      regroup h d b c p t e = simp (append_assoc, append-nil)

numbered-pieces : (form : Form) (plan : Plan) → (form ≡ First → ⊥) → pieces form plan (written_tree plan.tree) ≡ plan_text form plan
unfolding plan_text front_lines price_lines
numbered-pieces First plan other = absurd (other refl)
numbered-pieces Second plan other = joined-pieces Second plan (list_lines (length (lists_of plan.tree)) (lists_of plan.tree)) (row (codes "TREE") (length plan.tree ∷ []) ∷ numbered_lines (lists_of plan.tree) plan.tree)
numbered-pieces Third plan other = joined-pieces Third plan (list_lines (length (lists_of plan.tree)) (lists_of plan.tree)) (row (codes "TREE") (length plan.tree ∷ []) ∷ numbered_lines (lists_of plan.tree) plan.tree)

-- the parts of a plan, appended one after the other, are the text that is written of the plan
pub plan_pieces : (form : Form) (plan : Plan) → form ≡ written_form plan.cuts plan.tree
    → ((((([] ++ lines_text (head_lines form plan)) ++ lines_text (design_lines plan.design)) ++ lines_text (bound_lines plan.status plan.bound)) ++ lines_text (cut_lines form plan.cuts)) ++ lines_text (written_tree plan.tree)) ++ line_text (whole (codes "END")) ≡ written_text plan
plan_pieces form plan is = numbered-pieces form plan (λ first. not_first (has_thirds plan.cuts plan.tree) (sym is ∙ first)) ∙ ap (λ f. plan_text f plan) is

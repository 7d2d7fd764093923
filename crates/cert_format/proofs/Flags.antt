-- The loops over the nodes of a cut, and over an ascending list.
use Rattle.std.proofs.Common.{◌≡◌, ℕ, zero, suc, ◌+◌, ◌-◌, ◌<◌, ◌≤◌, ◌==◌, Bool, true, false, List, [], ◌∷◌, ◌++◌, length, get_or, drop, Some, None, cond, refl, sym, ap, ◌∙◌, arith}
use Rattle.std.specs.Option.{option_map}
use Rattle.std.proofs.lemmas.Bool.{lt-ltb, le-ltb}
use Rattle.std.proofs.lemmas.List.{append-nil, drop_more, length-drop}
use Rattle.cert_format.specs.Bodies.{only_if, choose, behind_number, flags_of, ascends}
use Rattle.plan_tokens.proofs.NumberWords.{with_front, fronts}

-- a flag of this node, and those of the nodes behind it
step-on : (front : List Bool) (flag : Bool) (at left less : ℕ) (ns : List ℕ) → left ≡ less → with_front front (option_map (λ flags. flag ∷ flags) (flags_of (suc at) left ns)) ≡ with_front (front ++ flag ∷ []) (flags_of (at + 1) less ns)
step-on front flag at left less ns same =
    let next : suc at ≡ at + 1 = omega arith in
    fronts front flag (flags_of (suc at) left ns)
    ∙ ap (λ k. with_front (front ++ flag ∷ []) (flags_of k left ns)) next
    ∙ ap (λ k. with_front (front ++ flag ∷ []) (flags_of (at + 1) k ns)) same

step-in : (front : List Bool) (at left less : ℕ) (ns rest : List ℕ) → Some rest ≡ behind_number at ns → left ≡ suc less → with_front front (flags_of at left ns) ≡ with_front (front ++ true ∷ []) (flags_of (at + 1) less rest)
unfolding flags_of
step-in front at zero less ns rest e is = absurd (omega arith)
step-in front at (suc left) less ns rest e is =
    ap (λ o. with_front front (choose o (λ rest. option_map (λ flags. true ∷ flags) (flags_of (suc at) left rest)) (option_map (λ flags. false ∷ flags) (flags_of (suc at) left ns)))) (sym e)
    ∙ step-on front true at left less rest (omega arith)

-- the node is in the list
pub flags_in : (front : List Bool) (at nodes : ℕ) (ns rest : List ℕ) → at < nodes → Some rest ≡ behind_number at ns → with_front front (flags_of at (nodes - at) ns) ≡ with_front (front ++ true ∷ []) (flags_of (at + 1) (nodes - (at + 1)) rest)
flags_in front at nodes ns rest lt e = step-in front at (nodes - at) (nodes - (at + 1)) ns rest e (omega arith)

step-out : (front : List Bool) (at left less : ℕ) (ns : List ℕ) → None ≡ behind_number at ns → left ≡ suc less → with_front front (flags_of at left ns) ≡ with_front (front ++ false ∷ []) (flags_of (at + 1) less ns)
unfolding flags_of
step-out front at zero less ns e is = absurd (omega arith)
step-out front at (suc left) less ns e is =
    ap (λ o. with_front front (choose o (λ rest. option_map (λ flags. true ∷ flags) (flags_of (suc at) left rest)) (option_map (λ flags. false ∷ flags) (flags_of (suc at) left ns)))) (sym e)
    ∙ step-on front false at left less ns (omega arith)

-- it is not
pub flags_out : (front : List Bool) (at nodes : ℕ) (ns : List ℕ) → at < nodes → None ≡ behind_number at ns → with_front front (flags_of at (nodes - at) ns) ≡ with_front (front ++ false ∷ []) (flags_of (at + 1) (nodes - (at + 1)) ns)
flags_out front at nodes ns lt e = step-out front at (nodes - at) (nodes - (at + 1)) ns e (omega arith)

step-end : (front : List Bool) (at left : ℕ) (ns : List ℕ) → left ≡ 0 → with_front front (flags_of at left ns) ≡ cond (length ns == 0) (Some front) None
unfolding flags_of
step-end front at zero ns is = by (length ns == 0)
  where
    by : (t : Bool) → with_front front (only_if t []) ≡ cond t (Some front) None
    by true = ap (λ fs. Some fs) (append-nil front)
    by false = refl
step-end front at (suc left) ns is = absurd (omega arith)

-- no node is left
pub flags_end : (front : List Bool) (at nodes : ℕ) (ns : List ℕ) → nodes ≤ at → with_front front (flags_of at (nodes - at) ns) ≡ cond (length ns == 0) (Some front) None
flags_end front at nodes ns ge = step-end front at (nodes - at) ns (omega arith)

-- ---- ascending lists

-- where a number is greater than the one before, the list ascends from that one exactly where it does from this one
pub ascends_more : (ns : List ℕ) (i : ℕ) → 1 ≤ i → i < length ns → get_or ns (i - 1) 0 < get_or ns i 0 → ascends (drop (i - 1) ns) ≡ ascends (drop (i + 1 - 1) ns)
unfolding ascends
ascends_more ns i some lt less =
    let here : drop (i - 1) ns ≡ get_or ns (i - 1) 0 ∷ drop (i - 1 + 1) ns = drop_more ns (i - 1) 0 (omega arith) in
    let again : i - 1 + 1 ≡ i = omega arith in
    let later : i + 1 - 1 ≡ i = omega arith in
    let there : drop i ns ≡ get_or ns i 0 ∷ drop (i + 1) ns = drop_more ns i 0 lt in
    ap ascends (here ∙ ap (λ k. get_or ns (i - 1) 0 ∷ drop k ns) again ∙ ap (λ zs. get_or ns (i - 1) 0 ∷ zs) there)
    ∙ (rw (lt-ltb (get_or ns (i - 1) 0) (get_or ns i 0) less) (ap ascends (sym there) ∙ ap (λ k. ascends (drop k ns)) (sym later)))

-- where a number is not greater than the one before it, the list does not ascend from that one on
pub ascends_stop : (ns : List ℕ) (i : ℕ) → 1 ≤ i → i < length ns → get_or ns i 0 ≤ get_or ns (i - 1) 0 → ascends (drop (i - 1) ns) ≡ false
unfolding ascends
ascends_stop ns i some lt ge =
    let here : drop (i - 1) ns ≡ get_or ns (i - 1) 0 ∷ drop (i - 1 + 1) ns = drop_more ns (i - 1) 0 (omega arith) in
    let again : i - 1 + 1 ≡ i = omega arith in
    let there : drop i ns ≡ get_or ns i 0 ∷ drop (i + 1) ns = drop_more ns i 0 lt in
    ap ascends (here ∙ ap (λ k. get_or ns (i - 1) 0 ∷ drop k ns) again ∙ ap (λ zs. get_or ns (i - 1) 0 ∷ zs) there)
    ∙ (rw (le-ltb (get_or ns (i - 1) 0) (get_or ns i 0) ge) refl)

short-ascends : (xs : List ℕ) → length xs ≤ 1 → ascends xs ≡ true
unfolding ascends
short-ascends [] few = refl
short-ascends (x ∷ []) few = refl
short-ascends (x ∷ y ∷ xs) few = absurd (omega arith)

-- where no number is left to compare with the one before it, what remains of the list ascends
pub ascends_end : (ns : List ℕ) (i : ℕ) → length ns ≤ i → ascends (drop (i - 1) ns) ≡ true
ascends_end ns i ge = short-ascends (drop (i - 1) ns) (omega (arith, length-drop (i - 1) ns))

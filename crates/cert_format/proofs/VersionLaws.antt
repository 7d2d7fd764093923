-- Which cuts and records each version has a line for, and which version is written.
use Rattle.std.proofs.Common.{◌≡◌, ℕ, ◌||◌, Bool, true, false, true≢false, not, cond, List, [], ◌∷◌, refl, sym, ap, subst, ◌∙◌}
use Rattle.std.specs.Prelude.{◌↔◌, IsTrue}
use Rattle.std.proofs.lemmas.Bool.{and_parts}
use Rattle.proof_tree.specs.declared.cuts.Cut.{Cut as LoadCut}
use Rattle.proof_tree.specs.declared.tree.TreeNode.{TreeNode}
use Rattle.proof_tree.specs.declared.plan.Plan.{Plan}
use Rattle.proof_tree.specs.Spellings.{IsSpellable}
use Rattle.cert_format.specs.declared.form.Form.{Form}
use Rattle.cert_format.specs.declared.form.Form.TheVariants.{First, Second, Third}
use Rattle.cert_format.specs.Versions.{is_loads, is_far, has_loads, has_cuts, has_thirds, TellsCuts, HasLines, is_asked, written_form}
use Rattle.cert_format.specs.Grammar.{written_text, CanTell, HasFields, SpellsPlan}

neither : (a b : Bool) → (a || b) ≡ false → (a ≡ false) × (b ≡ false)
neither true b e = absurd (true≢false e)
neither false b e = (refl, e)

not-true : (b : Bool) → not b ≡ true → b ≡ false
not-true true e = absurd (true≢false (sym e))
not-true false e = refl

-- the first version is not written
pub not_first : (some : Bool) → cond some Third Second ≡ First → ⊥
not_first true e = cc
not_first false e = cc

-- the third version has a line for each record
pub lines_of_third : (nodes : List TreeNode) → HasLines Third nodes
lines_of_third [] = tt
lines_of_third (node ∷ nodes) = (refl, lines_of_third nodes)

no-cuts : (cuts : List LoadCut) → has_cuts cuts ≡ false → cuts ≡ []
no-cuts [] e = refl
no-cuts (cut ∷ cuts) e = absurd (true≢false e)

-- where no record is a load split, the second version has a line for each
pub lines_without_loads : (nodes : List TreeNode) → has_loads nodes ≡ false → HasLines Second nodes
lines_without_loads [] e = tt
lines_without_loads (node ∷ nodes) e = (let p = neither (is_loads node) (has_loads nodes) e in (ap not p.0, lines_without_loads nodes p.1))

-- where the first or the second version has a line for each record, none is a load split
none-in-second : (nodes : List TreeNode) → HasLines Second nodes → has_loads nodes ≡ false
none-in-second [] h = refl
none-in-second (node ∷ nodes) h = ap (λ b. b || has_loads nodes) (not-true (is_loads node) h.0) ∙ none-in-second nodes h.1

second-by-first : (nodes : List TreeNode) → HasLines First nodes → HasLines Second nodes
second-by-first [] h = tt
second-by-first (node ∷ nodes) h = ((and_parts (not (is_loads node)) (not (is_far node)) h.0).0, second-by-first nodes h.1)

-- where there is neither a cut nor a load split, the second version has lines for all
pub without_thirds : (cuts : List LoadCut) (nodes : List TreeNode) → has_thirds cuts nodes ≡ false → TellsCuts Second cuts × HasLines Second nodes
without_thirds cuts nodes e = (let p = neither (has_cuts cuts) (has_loads nodes) e in (no-cuts cuts p.0, lines_without_loads nodes p.1))

-- and the other way round
no-thirds : (cuts : List LoadCut) (nodes : List TreeNode) → cuts ≡ [] → HasLines Second nodes → has_thirds cuts nodes ≡ false
no-thirds cuts nodes none h = ap (λ cs. has_cuts cs || has_loads nodes) none ∙ none-in-second nodes h

-- a text is of the third version exactly where the plan has a cut or a load split
pub third_exactly : (form : Form) (cuts : List LoadCut) (nodes : List TreeNode) → TellsCuts form cuts → HasLines form nodes → IsTrue (is_asked form cuts nodes) → (form ≡ Third) ↔ IsTrue (has_thirds cuts nodes)
third_exactly First cuts nodes none h asked = (λ e. absurd cc, λ t. absurd (true≢false (sym t ∙ no-thirds cuts nodes none (second-by-first nodes h))))
third_exactly Second cuts nodes none h asked = (λ e. absurd cc, λ t. absurd (true≢false (sym t ∙ no-thirds cuts nodes none h)))
third_exactly Third cuts nodes none h asked = (λ e. asked, λ t. refl)

-- a version that can tell of two prices, has a line for each cut and record and is asked for
record IsFor (form : Form) (both : Bool) (cuts : List LoadCut) (nodes : List TreeNode) : Type 0 where
  told : CanTell form both
  cuts_told : TellsCuts form cuts
  lines : HasLines form nodes
  asked : IsTrue (is_asked form cuts nodes)

written-for : (both : Bool) (cuts : List LoadCut) (nodes : List TreeNode) → IsFor (written_form cuts nodes) both cuts nodes
written-for both cuts nodes = by (has_thirds cuts nodes) refl
  where
    by : (some : Bool) → has_thirds cuts nodes ≡ some → IsFor (cond some Third Second) both cuts nodes
    by true e = record { told = tt; cuts_told = tt; lines = lines_of_third nodes; asked = e }
    by false e = (let p = without_thirds cuts nodes e in record { told = tt; cuts_told = p.0; lines = p.1; asked = refl })

-- the version that is written has lines for the cuts
pub written_tells : (form : Form) (cuts : List LoadCut) (nodes : List TreeNode) → form ≡ written_form cuts nodes → TellsCuts form cuts
written_tells form cuts nodes is = subst (λ f. TellsCuts f cuts) (sym is) (written-for false cuts nodes).cuts_told

-- the text that is written spells the plan
pub written_spells : (text : List ℕ) (plan : Plan) → text ≡ written_text plan → IsSpellable plan → HasFields plan → SpellsPlan text plan
written_spells text plan is s f =
    let w = written-for plan.both plan.cuts plan.tree in
    record { spellable = s; fields = f; form = written_form plan.cuts plan.tree; told = w.told; cuts_told = w.cuts_told; lines = w.lines; asked = w.asked; is_text = is }

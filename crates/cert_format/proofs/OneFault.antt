-- A text has at most one fault, and none where it spells a plan; what is answered is it or the plan.
use Rattle.std.proofs.Common.{◌≡◌, ℕ, ◌⊎◌, inl, inr, List, [], ◌∷◌, ◌++◌, length, refl, sym, ap, subst, ◌∙◌, append_assoc}
use Rattle.std.specs.Prelude.{Result, Ok, Err, IfOk, IfErr}
use Rattle.std.proofs.lemmas.List.{append-nil}
use Rattle.proof_tree.specs.declared.plan.Plan.{Plan}
use Rattle.cert_format.specs.declared.fault.PlanFault.{PlanFault}
use Rattle.cert_format.specs.declared.fault.PlanFault.TheVariants as faults
use Rattle.plan_tokens.specs.Lines.{Line, text_of, lines_of}
use Rattle.cert_format.specs.Grammar.{SpellsPlan}
use Rattle.cert_format.specs.Drafts.{IsBegun, IsMisplaced}
use Rattle.cert_format.specs.Faults.{IsFault, OnlyPlan, OnlyPlanFault}
use Rattle.cert_format.specs.Reading.{plan_of}
use Rattle.cert_format.specs.Answers.{GivesPlan}
use Rattle.cert_format.proofs.PlanLaws.{stated_by, spelled_draft, plan_drafted, plan_text_lines, spells_takes, spells_again}
use Rattle.cert_format.proofs.Places.{told_line, told_end}

-- a front of lines that begin a draft begins it too
front : (ls more : List Line) → IsBegun (ls ++ more) → IsBegun ls
front ls more b = record { states = b.states; more = more ++ b.more; draft = b.draft; begins = b.begins ∙ append_assoc ls more b.more }

-- of lists that parts of one list are, the one where P ends is one
once : (P : List Line → Type 0) → ((ls more : List Line) → P (ls ++ more) → P ls) → (before other : List Line) (l k : Line) (after behind : List Line)
    → before ++ l ∷ after ≡ other ++ k ∷ behind → P before → (P (before ++ l ∷ []) → ⊥) → P other → (P (other ++ k ∷ []) → ⊥) → before ≡ other
once P cut [] [] l k after behind e p stop q halt = refl
once P cut [] (y ∷ ys) l k after behind e p stop q halt = (let same : l ≡ y = cc in absurd (stop (subst (λ z. P (z ∷ [])) (sym same) (cut (y ∷ []) ys q))))
once P cut (x ∷ xs) [] l k after behind e p stop q halt = (let same : k ≡ x = cc in absurd (halt (subst (λ z. P (z ∷ [])) (sym same) (cut (x ∷ []) xs p))))
once P cut (x ∷ xs) (y ∷ ys) l k after behind e p stop q halt =
    let same : y ≡ x = cc in
    let rest : xs ++ l ∷ after ≡ ys ++ k ∷ behind = cc in
    ap (λ zs. x ∷ zs) (once (λ ls. P (x ∷ ls)) (λ ls more. cut (x ∷ ls) more) xs ys l k after behind rest p stop
    (subst (λ z. P (z ∷ ys)) same q) (subst (λ z. P (z ∷ (ys ++ k ∷ [])) → ⊥) same halt))
    ∙ ap (λ z. z ∷ ys) (sym same)

-- where a line cannot stand, the lines of the text begin no draft
not-begun : (text : List ℕ) (at : ℕ) → IsMisplaced text at → IsBegun (lines_of text) → ⊥
not-begun text at m b = m.bad (front (m.before ++ m.line ∷ []) m.after (subst IsBegun (m.lines ∙ sym (append_assoc m.before (m.line ∷ []) m.after)) b))

-- the lines of a text that spells a plan begin one
spelt-begun : (text : List ℕ) (plan : Plan) → SpellsPlan text plan → IsBegun (lines_of text)
spelt-begun text plan s = record {
  states = stated_by s.form plan;
  more = [];
  draft = spelled_draft text plan s;
  begins = plan_drafted s.form plan s.spellable s.fields s.asked ∙ sym (plan_text_lines s.form plan s.spellable s.fields) ∙ ap lines_of (sym s.is_text) ∙ sym (append-nil (lines_of text));
}

-- a text that spells a plan has no fault, though want of memory may be told of it
pub no_fault : (text : List ℕ) (plan : Plan) (fault : PlanFault) → SpellsPlan text plan → IsFault text fault → fault ≡ faults.OutOfMemory
no_fault text plan (faults.Line at) s f = absurd (not-begun text at f (spelt-begun text plan s))
no_fault text plan (faults.Ended at) s f = absurd (f.unfinished_text plan s)
no_fault text plan faults.OutOfMemory s f = refl

one-place : (text : List ℕ) (a b : ℕ) → IsMisplaced text a → IsMisplaced text b → a ≡ b
one-place text a b m n = m.place ∙ ap (λ ls. length (text_of ls)) (once IsBegun front m.before n.before m.line n.line m.after n.after (sym m.lines ∙ n.lines) m.begun m.bad n.begun n.bad) ∙ sym n.place

-- two faults of a text are the same, or one of them is want of memory
pub one_fault : (text : List ℕ) (one other : PlanFault) → IsFault text one → IsFault text other → (one ≡ faults.OutOfMemory) ⊎ ((other ≡ faults.OutOfMemory) ⊎ (one ≡ other))
one_fault text faults.OutOfMemory other f g = inl refl
one_fault text (faults.Line a) faults.OutOfMemory f g = inr (inl refl)
one_fault text (faults.Ended a) faults.OutOfMemory f g = inr (inl refl)
one_fault text (faults.Line a) (faults.Line b) f g = inr (inr (ap (λ x. faults.Line x) (one-place text a b f g)))
one_fault text (faults.Line a) (faults.Ended b) f g = absurd (not-begun text a f g.begun)
one_fault text (faults.Ended a) (faults.Line b) f g = absurd (not-begun text b g f.begun)
one_fault text (faults.Ended a) (faults.Ended b) f g = inr (inr (ap (λ x. faults.Ended x) (f.place ∙ sym g.place)))

-- ---- what is answered

-- where a plan is answered, the text spells it
pub answers_plan : (text : List ℕ) (r : Result Plan PlanFault) → GivesPlan r (plan_of text) → IfOk r (SpellsPlan text)
answers_plan text (Ok plan) g = spells_takes text plan g
answers_plan text (Err fault) g = tt

-- where a fault is answered, it is a fault of the text
pub answers_fault : (text : List ℕ) (r : Result Plan PlanFault) → GivesPlan r (plan_of text) → IfErr r (IsFault text)
answers_fault text (Ok plan) g = tt
answers_fault text (Err (faults.Line at)) g = told_line text at g
answers_fault text (Err (faults.Ended at)) g = told_end text at g
answers_fault text (Err faults.OutOfMemory) g = tt

abbrev read : Plan → Result Plan PlanFault
read plan = Ok plan

same : (one other : Plan) → read one ≡ read other → one ≡ other
same one other e = cc

-- of a text that spells a plan, this plan or want of memory is answered
pub answers_only_plan : (text : List ℕ) (r : Result Plan PlanFault) → GivesPlan r (plan_of text) → (plan : Plan) → SpellsPlan text plan → OnlyPlan r plan
answers_only_plan text (Ok found) g plan s = same found plan (sym g ∙ spells_again text plan s)
answers_only_plan text (Err fault) g plan s = no_fault text plan fault s (answers_fault text (Err fault) g)

-- of a text with a fault other than want of memory, this fault or want of memory is answered
pub answers_only_fault : (text : List ℕ) (r : Result Plan PlanFault) → GivesPlan r (plan_of text) → (fault : PlanFault) → IsFault text fault → OnlyPlanFault r fault
answers_only_fault text (Ok found) g fault f = no_fault text found fault (answers_plan text (Ok found) g) f
answers_only_fault text (Err told) g fault f = one_fault text told fault (answers_fault text (Err told) g) f

-- Two files have one answer, beside want of memory.
use Rattle.std.proofs.Common.{◌≡◌, ℕ, ◌<◌, ◌≤◌, List, ◌++◌, ◌∷◌, length, All, Option, Some, None, ◌⊎◌, inl, inr, refl, sym, ap, ◌∙◌, arith}
use Rattle.std.proofs.lemmas.Bool.{false≢true}
use Rattle.std.proofs.lemmas.List.{length-append, get_or_append_left}
use Rattle.std.proofs.Math.Seq.{get_or-append_seam}
use Rattle.plan_base.specs.declared.parts.Orient.{Orient}
use Rattle.plan_base.specs.declared.parts.CountLaw.{CountLaw}
use Rattle.plan_base.specs.declared.parts.Link.{Link}
use Rattle.plan_base.specs.declared.parts.Demand.{Demand}
use Rattle.plan_base.specs.declared.parts.Parts.{Parts}
use Rattle.plan_base.specs.declared.limits.TheConstants.{MAX_NODES}
use Rattle.plan_base.specs.First.{fault_at, first_in}
use Rattle.plan_base.specs.Facts.{IsInstance}
use Rattle.plan_base.specs.Faults.{told_of, build_fault}
use Rattle.plan_base.proofs.FirstFault.{fault_at-get_or, first_fault-here, none-first_fault}
use Rattle.plan_base.proofs.BuildLaws.{build_fault-IsInstance}
use Rattle.snd_network.specs.declared.file.NetworkFile.{NetworkFile}
use Rattle.snd_model.specs.declared.keys.Key.{Key}
use Rattle.snd_model.specs.declared.file.ModelFile.{ModelFile}
use Rattle.snd_model.specs.Table.{number_of}
use Rattle.snd_model.specs.Grammar.{setting_of}
use Rattle.model_check.specs.declared.fault.CheckFault.{CheckFault}
use Rattle.model_check.specs.declared.fault.CheckFault.TheVariants.{Unsupported, Build, OutOfMemory}
use Rattle.model_check.specs.Profile.{IsSupported}
use Rattle.model_check.specs.Reading.{ReadsAs}
use Rattle.model_check.specs.Refusals.{IsFirstOutside, IsBadPair, IsUnsupported, parts_of_files, IsCheckFault}
use Rattle.model_check.specs.Telling.{outside_fault, value_fault}
use Rattle.model_check.proofs.Values.{planned-none, outside-some}

-- ---- one instance

make : Orient → CountLaw → ℕ → List Link → List Demand → Parts
make orient law nodes links demands = record { orient = orient; law = law; nodes = nodes; links = links; demands = demands }

same_made : (o o' : Orient) (w w' : CountLaw) (n n' : ℕ) (ls ls' : List Link) (ds ds' : List Demand) → o ≡ o' → w ≡ w' → n ≡ n' → ls ≡ ls' → ds ≡ ds' → make o w n ls ds ≡ make o' w' n' ls' ds'
same_made o o' w w' n n' ls ls' ds ds' same_o same_w same_n same_ls same_ds = cc

same_fields : (a b : Parts) → a.orient ≡ b.orient → a.law ≡ b.law → a.nodes ≡ b.nodes → a.links ≡ b.links → a.demands ≡ b.demands → a ≡ b
unfolding make
same_fields a b o w n ls ds = same_made a.orient b.orient a.law b.law a.nodes b.nodes a.links b.links a.demands b.demands o w n ls ds

-- two files read as one instance only
pub same_parts : (net : NetworkFile) (model : ModelFile) (a b : Parts) → ReadsAs net model a → ReadsAs net model b → a ≡ b
same_parts net model a b h k =
    same_fields a b (h.orient ∙ sym k.orient) (h.law ∙ sym k.law) (h.nodes ∙ sym k.nodes) (h.links ∙ sym k.links) (h.demands ∙ sym k.demands)

-- ---- an instance is not refused

-- the parts that are built are those that are read
built_is_read : (net : NetworkFile) (model : ModelFile) (p : Parts) → ReadsAs net model p → IsInstance p → parts_of_files net model ≡ p
built_is_read net model p h lawful =
    let few : p.nodes ≤ MAX_NODES = lawful.nodes in
    let count : told_of (length net.nodes) ≡ p.nodes = omega (arith, few, h.nodes) in
    same_fields (parts_of_files net model) p (sym h.orient) (sym h.law) count (sym h.links) (sym h.demands)

unsupported_not : (m : ModelFile) (key : Key) (value : ℕ) → IsUnsupported m key value → IsSupported m → ⊥
unsupported_not m key value h supported =
    elim h.cause [ inl first ↦ false≢true (sym first.outside ∙ supported.values key) | inr pair ↦ pair.link (supported.pair pair.demand) ]

-- files that read as an instance are refused for want of memory alone
pub not_refused : (net : NetworkFile) (model : ModelFile) (p : Parts) (fault : CheckFault) → ReadsAs net model p → IsInstance p → IsCheckFault net model fault → fault ≡ OutOfMemory
not_refused net model p (Unsupported key value) h lawful is = absurd (unsupported_not model key value is h.supported)
not_refused net model p (Build fault) h lawful is =
    let none : build_fault p ≡ None = build_fault-IsInstance p lawful in
    absurd (let bad : Some fault ≡ None = sym is.1 ∙ ap build_fault (built_is_read net model p h lawful) ∙ none in cc)
not_refused net model p OutOfMemory h lawful is = refl

-- ---- one refusal

-- a check that finds the first fault behind the front of a list finds it in the list
first_in_split : {X F : Type 0} (check : ℕ → X → Option F) (before : List X) (x : X) (after : List X) (e : F) → All (λ y. (j : ℕ) → check j y ≡ None) before → check (length before) x ≡ Some e → first_in check (before ++ x ∷ after) ≡ Some e
first_in_split check before x after e none here =
    let within : length before < length (before ++ x ∷ after) = omega (arith, length-append before (x ∷ after)) in
    let front = none-first_fault (fault_at check (before ++ x ∷ after)) (length before) (λ j inside.
    fault_at-get_or check (before ++ x ∷ after) j x (omega (arith, inside, within)) ∙ ap (check j) (get_or_append_left before (x ∷ after) x j inside) ∙ none j x inside j) in
    first_fault-here (fault_at check (before ++ x ∷ after)) e (length before) (length (before ++ x ∷ after)) front
    (fault_at-get_or check (before ++ x ∷ after) (length before) x within ∙ ap (check (length before)) (get_or-append_seam before x after x) ∙ here) within

first_outside : (m : ModelFile) (key : Key) → IsFirstOutside m key → value_fault m ≡ Some (Unsupported key (number_of (setting_of m key)))
unfolding value_fault
first_outside m key h =
    ap (λ ks. first_in (λ _ k. outside_fault m k) ks) h.order
    ∙ first_in_split (λ _ k. outside_fault m k) h.before key h.after (Unsupported key (number_of (setting_of m key))) (λ k d within j. planned-none m _ (h.planned k d within)) (outside-some m key h.outside)

same_first : (m : ModelFile) (a b : Key) → IsFirstOutside m a → IsFirstOutside m b → a ≡ b
same_first m a b h k =
    let same : Some (Unsupported a (number_of (setting_of m a))) ≡ Some (Unsupported b (number_of (setting_of m b))) = sym (first_outside m a h) ∙ first_outside m b k in
    cc

same_key : (m : ModelFile) (a b : Key) → IsFirstOutside m a ⊎ IsBadPair m a → IsFirstOutside m b ⊎ IsBadPair m b → a ≡ b
same_key m a b (inl h) (inl k) = same_first m a b h k
same_key m a b (inl h) (inr k) = absurd (false≢true (sym h.outside ∙ k.values a))
same_key m a b (inr h) (inl k) = absurd (false≢true (sym k.outside ∙ h.values b))
same_key m a b (inr h) (inr k) = h.told ∙ sym k.told

same_unsupported : (m : ModelFile) (a b : Key) (v w : ℕ) → IsUnsupported m a v → IsUnsupported m b w → Unsupported a v ≡ Unsupported b w
same_unsupported m a b v w h k =
    let keys : a ≡ b = same_key m a b h.cause k.cause in
    let values : v ≡ w = h.number ∙ ap (λ key. number_of (setting_of m key)) keys ∙ sym k.number in
    cc

-- two files are refused for one reason, beside want of memory
pub same_refusal : (net : NetworkFile) (model : ModelFile) (a b : CheckFault) → IsCheckFault net model a → IsCheckFault net model b → (a ≡ OutOfMemory) ⊎ ((b ≡ OutOfMemory) ⊎ (a ≡ b))
same_refusal net model OutOfMemory b h k = inl refl
same_refusal net model (Unsupported key value) OutOfMemory h k = inr (inl refl)
same_refusal net model (Unsupported key value) (Unsupported other number) h k = inr (inr (same_unsupported model key other value number h k))
same_refusal net model (Unsupported key value) (Build fault) h k = absurd (unsupported_not model key value h k.0)
same_refusal net model (Build fault) OutOfMemory h k = inr (inl refl)
same_refusal net model (Build fault) (Unsupported key value) h k = absurd (unsupported_not model key value k h.0)
same_refusal net model (Build fault) (Build other) h k =
    let same : Some fault ≡ Some other = sym h.1 ∙ k.1 in
    inr (inr cc)

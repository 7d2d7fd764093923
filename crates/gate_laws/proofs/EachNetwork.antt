-- Each text spells a network, or has a fault other than want of memory.
use Rattle.std.proofs.Common.{◌≡◌, ℕ, ◌⊎◌, inl, inr, Bool, true, false, List, [], ◌∷◌, ◌++◌, Option, Some, None, refl}
use Rattle.std.specs.Prelude.{Result, Ok, Err, is_some, if◌then◌else◌}
use Rattle.std.specs.Option.{option_map}
use Rattle.plan_base.specs.declared.ids.NodeId.{NodeId}
use Rattle.snd_lexer.specs.declared.token.Dialect.TheVariants as dialects
use Rattle.snd_reader.specs.declared.fault.TextFault.{TextFault}
use Rattle.snd_reader.specs.declared.fault.TextFault.TheVariants.{Unknown}
use Rattle.snd_reader.specs.Names.{number_of}
use Rattle.snd_reader.specs.Readers.{Placed, Stopped}
use Rattle.snd_reader.specs.Texts.{HasTokens}
use Rattle.snd_reader.proofs.ReadTexts as texts
use Rattle.snd_network.specs.declared.file.LinkRecord.{LinkRecord}
use Rattle.snd_network.specs.declared.file.DemandRecord.{DemandRecord}
use Rattle.snd_network.specs.declared.file.NetworkFile.{NetworkFile}
use Rattle.snd_network.specs.declared.draft.End.{End}
use Rattle.snd_network.specs.declared.draft.LinkDraft.{LinkDraft}
use Rattle.snd_network.specs.declared.draft.DemandDraft.{DemandDraft}
use Rattle.snd_network.specs.declared.draft.Named.{Named}
use Rattle.snd_network.specs.declared.draft.Draft.{Draft}
use Rattle.snd_network.specs.Grammar.{NetworkForm}
use Rattle.snd_network.specs.Reading.{network}
use Rattle.snd_network.specs.Ends.{node_id, IsNode, IsLinkOf, IsDemandOf, AreAllOf, IsFileOf, names_of, rows_of, link_ends, demand_ends, ends_of, all_ends, first_unknown}
use Rattle.snd_network.specs.Spelling.{network_header, SpellsDraft, SpellsNetwork, HasUnknown, IsFault}
use Rattle.snd_network.proofs.Top.{cut_fault}
use Rattle.snd_network.proofs.Whole.{lawful_network, network_ends}
use Rattle.gate_laws.proofs.EachText.{HasAFault, HasTokensOrFault, tokens_or_fault, stopped_so}

-- ---- ends that are all known have their nodes

-- where no end is unknown, the first one is known, and none of the others is unknown
first-known : (names : List (List ℕ)) (e : End) (es : List End) → first_unknown names (e ∷ es) ≡ None → (is_some (number_of names e.name) ≡ true) × (first_unknown names es ≡ None)
first-known names e es none = by (is_some (number_of names e.name)) none
  where
    by : (known : Bool) → (if known then first_unknown names es else Some e.at) ≡ None → (known ≡ true) × (first_unknown names es ≡ None)
    by true none = (refl, none)
    by false none = absurd cc

both-known : (names : List (List ℕ)) (es more : List End) → first_unknown names (es ++ more) ≡ None → (first_unknown names es ≡ None) × (first_unknown names more ≡ None)
both-known names [] more none = (refl, none)
both-known names (e ∷ es) more none =
    let first = first-known names e (es ++ more) none in
    let later = both-known names es more first.1 in
    (rw first.0 later.0, later.1)

node-of : (names : List (List ℕ)) (e : End) → is_some (number_of names e.name) ≡ true → (node : NodeId) × IsNode names e node
node-of names e known = by (number_of names e.name) known
  where
    by : (number : Option ℕ) → is_some number ≡ true → (node : NodeId) × (option_map node_id number ≡ Some node)
    by None known = absurd cc
    by (Some n) known = (node_id n, refl)

link-of : (names : List (List ℕ)) (l : Named LinkDraft) (source target : NodeId) → IsNode names l.part.source source → IsNode names l.part.target target → (found : LinkRecord) × IsLinkOf names l found
link-of names l source target is has = (
  record { name = l.name; source = source; target = target; pre = l.part.pre; pre_cost = l.part.pre_cost; routing = l.part.routing; setup = l.part.setup; modules = l.part.modules },
  record { name = refl; source = is; target = has; pre = refl; pre_cost = refl; routing = refl; setup = refl; modules = refl },
)

demand-of : (names : List (List ℕ)) (d : Named DemandDraft) (source target : NodeId) → IsNode names d.part.source source → IsNode names d.part.target target → (found : DemandRecord) × IsDemandOf names d found
demand-of names d source target is has = (
  record { name = d.name; source = source; target = target; unit = d.part.unit; value = d.part.value; hops = d.part.hops },
  record { name = refl; source = is; target = has; unit = refl; value = refl; hops = refl },
)

all-of : {T R : Type 0} (two : T → End × End) (names : List (List ℕ)) (Is : Named T → R → Type 0)
    → ((x : Named T) (source target : NodeId) → IsNode names (two x.part).0 source → IsNode names (two x.part).1 target → (r : R) × Is x r)
    → (xs : List (Named T)) → first_unknown names (ends_of two xs) ≡ None → (rs : List R) × AreAllOf Is xs rs
all-of two names Is one [] none = ([], tt)
all-of two names Is one (x ∷ xs) none =
    let first = first-known names (two x.part).0 ((two x.part).1 ∷ ends_of two xs) none in
    let second = first-known names (two x.part).1 (ends_of two xs) first.1 in
    let source = node-of names (two x.part).0 first.0 in
    let target = node-of names (two x.part).1 second.0 in
    let found = one x source.0 target.0 source.1 target.1 in
    let later = all-of two names Is one xs second.1 in
    (found.0 ∷ later.0, (found.1, later.1))

-- sections of which no end is unknown are those of a file
file-of : (d : Draft) → first_unknown (names_of d.nodes) (all_ends d) ≡ None → (file : NetworkFile) × IsFileOf d file
file-of d none =
    let names = names_of d.nodes in
    let known = both-known names (ends_of link_ends (rows_of d.links)) (ends_of demand_ends (rows_of d.demands)) none in
    let links = all-of link_ends names (IsLinkOf names) (λ l s t is has. link-of names l s t is has) (rows_of d.links) known.0 in
    let demands = all-of demand_ends names (IsDemandOf names) (λ x s t is has. demand-of names x s t is has) (rows_of d.demands) known.1 in
    (record { nodes = rows_of d.nodes; links = links.0; demands = demands.0 }, record { nodes = refl; links = links.1; demands = demands.1 })

-- ---- a network, or a fault

abbrev IsSpeltOrFaulty : List ℕ → Type 0
IsSpeltOrFaulty text = ((file : NetworkFile) × SpellsNetwork text file) ⊎ HasAFault (IsFault text)

of-draft : (text : List ℕ) (d : Draft) → SpellsDraft text d → (unknown : Option ℕ) → first_unknown (names_of d.nodes) (all_ends d) ≡ unknown → IsSpeltOrFaulty text
of-draft text d spelt None is = let found = file-of d is in inl (found.0, record { draft = d; spelt = spelt; found = found.1 })
of-draft text d spelt (Some at) is = inr (Unknown at, (λ same. absurd cc), record { draft = d; spelt = spelt; first = is })

of-tokens : (text : List ℕ) (ts : List Placed) → HasTokens dialects.Network network_header text ts → (read : Result (Draft × List Placed) Stopped) → network ts ≡ read → IsSpeltOrFaulty text
of-tokens text ts tokens (Ok found) is =
    let form = texts.reaches_end dialects.Network network_header NetworkForm network lawful_network network_ends text ts found.0 found.1 tokens is in
    of-draft text found.0 (record { ts = ts; tokens = tokens; form = form }) (first_unknown (names_of found.0.nodes) (all_ends found.0)) refl
of-tokens text ts tokens (Err stop) is =
    let fault = stopped_so stop.0 stop.1 (network ts) is in
    inr (fault.0, fault.1, texts.bad_fault dialects.Network network_header NetworkForm network lawful_network network_ends HasUnknown text ts fault.0 tokens fault.2)

of-text : (text : List ℕ) → HasTokensOrFault dialects.Network network_header text → IsSpeltOrFaulty text
of-text text (inl found) = of-tokens text found.0 found.1 (network found.0) refl
of-text text (inr fault) = inr (fault.0, fault.1, cut_fault text fault.0 fault.2)

-- each text spells a network, or has a fault other than want of memory
pub network_or_fault : (text : List ℕ) → IsSpeltOrFaulty text
network_or_fault text = of-text text (tokens_or_fault dialects.Network network_header text)

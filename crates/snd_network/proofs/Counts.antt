-- A text has no more nodes than bytes.
use Rattle.std.proofs.Common.{ℕ, zero, suc, ◌+◌, ◌-◌, ◌<◌, ◌≤◌, List, [], ◌∷◌, length, map, ap, arith}
use Rattle.std.specs.Prelude.{◌^◌, Result, Ok, Err, IfOk}
use Rattle.std.proofs.lemmas.List.{length-append, length-map}
use Rattle.snd_lexer.specs.declared.limits.TheConstants.{MAX_TEXT_BYTES}
use Rattle.snd_reader.specs.declared.fault.TextFault.{TextFault}
use Rattle.snd_lexer.specs.declared.token.Dialect.{Dialect}
use Rattle.snd_lexer.specs.declared.token.Dialect.TheVariants as dialects
use Rattle.snd_lexer.specs.Cutting.{Piece, blank, comment, word, open_bracket, close_bracket, equals_sign, text_of, AreCut, tokens_from}
use Rattle.snd_reader.specs.Readers.{Placed, the_end}
use Rattle.snd_reader.specs.Forms.{AreItems}
use Rattle.snd_reader.specs.Tokens.{place}
use Rattle.snd_reader.proofs.Headers.{rest_within}
use Rattle.snd_network.specs.declared.file.NodeRecord.{NodeRecord}
use Rattle.snd_network.specs.declared.draft.NodeItem.{NodeItem}
use Rattle.snd_network.specs.declared.draft.NodeItem.TheVariants as node_items
use Rattle.snd_network.specs.declared.draft.NodeList.{NodeList}
use Rattle.snd_network.specs.declared.draft.Table.{Table}
use Rattle.snd_network.specs.declared.draft.Draft.{Draft}
use Rattle.snd_network.specs.declared.draft.Section.{Section}
use Rattle.snd_network.specs.declared.draft.Section.TheVariants.{Nodes, Links, Demands, Meta, Paths}
use Rattle.snd_network.specs.Grammar.{no_nodes, BeginsNode, NodeForm, NodesForm, BeginsSection, SectionForm, no_sections}
use Rattle.snd_network.specs.Ends.{names_of}
use Rattle.snd_network.specs.Spelling.{network_header, SpellsDraft}
use Rattle.snd_reader.specs.Texts.{HasTokens}

-- ---- nodes and tokens

node-within : (s next : NodeList) (i : NodeItem) (front : List Placed) → NodeForm s i front next → length next.names ≤ suc (length s.names)
node-within s next (node_items.Name bytes) front f = omega (arith, ap (λ (n : NodeList). length n.names) f.1, length-append s.names (bytes ∷ []))
node-within s next node_items.Place front (a, x, b, f, (c, y, d, g, (h, z, k, m, n, o), p), q) = omega (arith, ap (λ (n : NodeList). length n.names) n.1)

node-items-within : (n : ℕ) (s x : NodeList) (l : List Placed) → AreItems BeginsNode NodeForm n s l x → length x.names ≤ length s.names + length l
unfolding AreItems
node-items-within zero s x l (t, a, e, b) = omega (arith, ap (λ (n : NodeList). length n.names) b)
node-items-within (suc n) s x l (t, h, front, next, rest, a, f, r, e) =
    omega (arith, node-within s next h front f, node-items-within n next x rest r, ap length e, length-append front rest)

nodes-within : (l : List Placed) (t : Table NodeRecord) → NodesForm l t → length t.names ≤ length l
nodes-within l t (a, s, b, f, g, e) =
    omega (arith, node-items-within f.0 no_nodes s a f.1, ap (λ (n : Table NodeRecord). length n.names) g.1, ap length e, length-append a b)

section-within : (d next : Draft) (k : Section) (front : List Placed) → SectionForm d k front next → length (names_of next.nodes) ≤ length (names_of d.nodes) + length front
section-within d next Nodes front (a, x, b, f, (c, t, m, g, h, p), q) =
    omega (arith, nodes-within c t g, ap (λ (n : Draft). length (names_of n.nodes)) h.1, ap length p, length-append c m, ap length q, length-append a b)
section-within d next Links front (a, x, b, f, (c, t, m, g, h, p), q) = omega (arith, ap (λ (n : Draft). length (names_of n.nodes)) h.1)
section-within d next Demands front (a, x, b, f, (c, t, m, g, h, p), q) = omega (arith, ap (λ (n : Draft). length (names_of n.nodes)) h.1)
section-within d next Meta front (a, x, b, f, (c, t, m, g, h, p), q) = omega (arith, ap (λ (n : Draft). length (names_of n.nodes)) h.1)
section-within d next Paths front (a, x, b, f, (c, t, m, g, h, p), q) = omega (arith, ap (λ (n : Draft). length (names_of n.nodes)) h.1)

sections-within : (n : ℕ) (d x : Draft) (l : List Placed) → AreItems BeginsSection SectionForm n d l x → length (names_of x.nodes) ≤ length (names_of d.nodes) + length l
unfolding AreItems
sections-within zero d x l (t, a, e, b) = omega (arith, ap (λ (n : Draft). length (names_of n.nodes)) b)
sections-within (suc n) d x l (t, k, front, next, rest, a, f, r, e) =
    omega (arith, section-within d next k front f, sections-within n next x rest r, ap length e, length-append front rest)

-- ---- tokens and bytes

-- a piece with a token has a byte
tokens-within : (d : Dialect) (at : ℕ) (ps : List Piece) (after : List ℕ) → AreCut d ps after → length (tokens_from at ps) ≤ length (text_of ps)
tokens-within d at [] after c = omega arith
tokens-within d at (blank byte ∷ ps) after c = omega (arith, tokens-within d (at + 1) ps after c.1)
tokens-within d at (comment bytes ∷ ps) after c =
    omega (arith, tokens-within d (at + suc (length bytes)) ps after c.1, length-append (35 ∷ bytes) (text_of ps))
tokens-within d at (word bytes ∷ ps) after c =
    omega (arith, c.0.0, tokens-within d (at + length bytes) ps after c.1, length-append bytes (text_of ps))
tokens-within d at (open_bracket ∷ ps) after c = omega (arith, tokens-within d (at + 1) ps after c.1)
tokens-within d at (close_bracket ∷ ps) after c = omega (arith, tokens-within d (at + 1) ps after c.1)
tokens-within d at (equals_sign ∷ ps) after c = omega (arith, tokens-within d (at + 1) ps after c.1)

has-few : (text : List ℕ) (ts : List Placed) → HasTokens dialects.Network network_header text ts → length ts ≤ length text + 1
has-few text ts h =
    let base = length text - length h.rest in
    let few = tokens-within dialects.Network 0 h.cut.pieces [] h.cut.cut in
    let last : Placed = record { at = base + length h.rest; is = the_end } in
    omega (arith, few, ap length h.cut.these, ap length h.cut.whole, rest_within network_header text h.rest h.header, ap length h.these, length-append (map (place base h.rest) h.tokens) (last ∷ []), length-map h.tokens (place base h.rest))

-- a text has few nodes
pub few_nodes : (text : List ℕ) (d : Draft) → SpellsDraft text d → length (names_of d.nodes) ≤ length text + 1
few_nodes text d h = omega (arith, sections-within h.form.0 no_sections d h.ts h.form.1, has-few text h.ts h.tokens)

-- sections that are read from a text of at most the greatest length have fewer than 2^32 nodes
pub few_told : (text : List ℕ) (result : Result Draft TextFault) → length text ≤ MAX_TEXT_BYTES → IfOk result (SpellsDraft text) → IfOk result (λ d. length (names_of d.nodes) < 2 ^ 32)
few_told text (Ok d) short h = omega (arith, short, few_nodes text d h)
few_told text (Err f) short h = tt

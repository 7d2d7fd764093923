-- The canonical text of a network spells it.
use Rattle.std.proofs.Common.{◌≡◌, ℕ, ◌-◌, ◌/◌, ◌^◌, ◌<◌, ◌≤◌, true, List, [], ◌∷◌, ◌++◌, length, All, Option, Some, None, refl, ap, subst, ◌∙◌, arith, codes, decimal, flat_map, inl, inr}
use Rattle.std.specs.List.{AllByRecursion}
use Rattle.std.proofs.lemmas.Bool.Decides.{nat_tests}
use Rattle.std.proofs.lemmas.List.Elements.{All-head, All-tail, All-weaker, All-from_recursion}
use Rattle.std.proofs.lemmas.List.{append-nil}
use Rattle.scaled_numbers.specs.Canonical.{grains_text, IsDecimalByte}
use Rattle.plan_base.specs.declared.ids.NodeId.{NodeId}
use Rattle.snd_lexer.specs.declared.token.Dialect.TheVariants as dialects
use Rattle.snd_lexer.specs.Cutting.{is_word}
use Rattle.snd_reader.specs.Readers.{Lexeme, close_bracket}
use Rattle.snd_reader.specs.Tokens.{placed}
use Rattle.snd_network.specs.declared.file.NodeRecord.{NodeRecord}
use Rattle.snd_network.specs.declared.file.LinkRecord.{LinkRecord}
use Rattle.snd_network.specs.declared.file.DemandRecord.{DemandRecord}
use Rattle.snd_network.specs.declared.file.NetworkFile.{NetworkFile}
use Rattle.snd_network.specs.Spelling.{SpellsNetwork}
use Rattle.snd_network.specs.WellFormed.{IsWord, IsGrains, IsWhole, IsPlace, IsLimit, IsModule, IsGoodNode, IsGoodLink, IsGoodDemand, IsWellFormed}
use Rattle.snd_reader.specs.Writing.{grains, section_text}
use Rattle.snd_network.specs.Writing.{place_tokens, node_tokens, end_token, module_tokens, link_tokens, limit_token, demand_tokens, node_lines, link_lines, demand_lines, network_text}
use Rattle.snd_reader.proofs.CutTexts.{IsCutInto, IsWritable, AreWritable, glue, blank_cut, lines_cut, section_cut, section_tokens, has_lexemes, placed_seen}
use Rattle.snd_network.proofs.SpeltRecords.{IsReadBack, good_name}
use Rattle.snd_network.proofs.SpeltSections.{network_tokens, reads_network}

-- the canonical text behind its header line
abbrev behind : NetworkFile → List ℕ
behind file =
    10 ∷ (section_text (codes "NODES") (node_lines file.nodes)
    ++ (section_text (codes "LINKS") (link_lines file.nodes file.links)
    ++ section_text (codes "DEMANDS") (demand_lines file.nodes file.demands)))

-- letters make a word
letters : (bytes : List ℕ) → 0 < length bytes → AllByRecursion (λ byte. is_word dialects.Network byte ≡ true) bytes → IsWord bytes
letters bytes some h = record { some = some; word_bytes = All-from_recursion (λ byte. is_word dialects.Network byte ≡ true) bytes h }

nodes_word : IsWord (codes "NODES")
nodes_word = letters (codes "NODES") (omega arith) (refl, (refl, (refl, (refl, (refl, tt)))))

links_word : IsWord (codes "LINKS")
links_word = letters (codes "LINKS") (omega arith) (refl, (refl, (refl, (refl, (refl, tt)))))

demands_word : IsWord (codes "DEMANDS")
demands_word = letters (codes "DEMANDS") (omega arith) (refl, (refl, (refl, (refl, (refl, (refl, (refl, tt)))))))

unlimited : IsWord (codes "UNLIMITED")
unlimited = letters (codes "UNLIMITED") (omega arith) (refl, (refl, (refl, (refl, (refl, (refl, (refl, (refl, (refl, tt)))))))))

-- what is written of a number is a word of digits and perhaps a point
pub record AreNumbers : Type 0 where
  pub back : IsReadBack
  pub some : (value scale : ℕ) → value < 2 ^ 128 → scale ≤ 12 → 0 < length (grains_text value scale)
  pub bytes : (value scale : ℕ) → value < 2 ^ 128 → scale ≤ 12 → All IsDecimalByte (grains_text value scale)

decimal-word : (byte : ℕ) → IsDecimalByte byte → is_word dialects.Network byte ≡ true
decimal-word byte (inl h) = grind (arith, nat_tests)
decimal-word byte (inr h) = rw h refl

writable-append : (ls ms : List Lexeme) → AreWritable dialects.Network ls → AreWritable dialects.Network ms → AreWritable dialects.Network (ls ++ ms)
writable-append [] ms h k = k
writable-append (l ∷ ls) ms h k = (h.0, writable-append ls ms h.1 k)

all-writable : {X : Type 0} (Good : X → Type 0) (tokens : X → List Lexeme) (xs : List X) → ((x : X) → Good x → AreWritable dialects.Network (tokens x)) → All Good xs → AllByRecursion (λ x. AreWritable dialects.Network (tokens x)) xs
all-writable Good tokens [] one h = tt
all-writable Good tokens (x ∷ xs) one h = (one x (All-head Good x xs h), all-writable Good tokens xs one (All-tail Good x xs h))

place-writable : (place : Option (List ℕ × List ℕ)) → IsPlace place → AreWritable dialects.Network (place_tokens place)
place-writable None h = tt
place-writable (Some place) h = (tt, (h.0.word, (h.1.word, (tt, tt))))

node-writable : (n : NodeRecord) → IsGoodNode n → AreWritable dialects.Network (node_tokens n)
node-writable n h = (h.name.word, place-writable n.place h.place)

module _ (numbers : AreNumbers) where
  written-word : (value scale : ℕ) → value < 10 ^ 18 → scale ≤ 12 → IsWord (grains_text value scale)
  written-word value scale small within =
      let wide : value < 2 ^ 128 = omega (arith, small) in
      record {
        some = numbers.some value scale wide within;
        word_bytes = All-weaker IsDecimalByte (λ byte. is_word dialects.Network byte ≡ true) decimal-word (grains_text value scale) (numbers.bytes value scale wide within);
      }

  grains-writable : (n : ℕ) → IsGrains n → IsWritable dialects.Network (grains n)
  grains-writable n h = written-word n 6 h (omega arith)

  whole-writable : (n : ℕ) → IsWhole n → IsWord (decimal n)
  unfolding grains_text
  whole-writable n h = subst IsWord (append-nil (decimal (n / 10 ^ 0)) ∙ ap decimal (let e : n / 10 ^ 0 ≡ n = omega arith in e)) (written-word n 0 (omega (arith, h)) (omega arith))

  limit-writable : (limit : Option ℕ) → IsLimit limit → IsWritable dialects.Network (limit_token limit)
  limit-writable None h = unlimited
  limit-writable (Some n) h = whole-writable n h

  modules-writable : (modules : List (ℕ × ℕ)) → All IsModule modules → AreWritable dialects.Network (module_tokens modules)
  modules-writable [] h = tt
  modules-writable (m ∷ modules) h =
      let here = All-head IsModule m modules h in
      (grains-writable m.0 here.0, (grains-writable m.1 here.1, modules-writable modules (All-tail IsModule m modules h)))

  module _ (nodes : List NodeRecord) (good : All IsGoodNode nodes) where
    end-writable : (id : NodeId) → id.0 < length nodes → IsWritable dialects.Network (end_token nodes id)
    end-writable id within = (good_name nodes id.0 good within).word

    link-writable : (l : LinkRecord) → IsGoodLink (length nodes) l → AreWritable dialects.Network (link_tokens nodes l)
    link-writable l h = (
      h.name.word,
      (
        tt,
        (
          end-writable l.source h.source,
          (
            end-writable l.target h.target,
            (
              tt,
              (
                grains-writable l.pre h.pre,
                (
                  grains-writable l.pre_cost h.pre_cost,
                  (grains-writable l.routing h.routing, (grains-writable l.setup h.setup, (tt, writable-append (module_tokens l.modules) (close_bracket ∷ []) (modules-writable l.modules h.modules) (tt, tt)))),
                ),
              ),
            ),
          ),
        ),
      ),
    )

    demand-writable : (d : DemandRecord) → IsGoodDemand (length nodes) d → AreWritable dialects.Network (demand_tokens nodes d)
    demand-writable d h =
        (h.name.word, (tt, (end-writable d.source h.source, (end-writable d.target h.target, (tt, (whole-writable d.unit h.unit, (grains-writable d.value h.value, (limit-writable d.hops h.hops, tt))))))))

  -- the text behind the header line is cut into the tokens of the network
  text-cut : (file : NetworkFile) → IsWellFormed file → IsCutInto dialects.Network (behind file) (network_tokens file) []
  text-cut file h =
      let nodes = section_text (codes "NODES") (node_lines file.nodes) in
      let links = section_text (codes "LINKS") (link_lines file.nodes file.links) in
      let demands = section_text (codes "DEMANDS") (demand_lines file.nodes file.demands) in
      let node_ls = flat_map node_tokens file.nodes in
      let link_ls = flat_map (link_tokens file.nodes) file.links in
      let demand_ls = flat_map (demand_tokens file.nodes) file.demands in
      let a : IsCutInto dialects.Network demands (section_tokens (codes "DEMANDS") demand_ls) [] =
      section_cut dialects.Network (codes "DEMANDS") (demand_lines file.nodes file.demands) [] demand_ls demands_word
      (lines_cut dialects.Network (demand_tokens file.nodes) file.demands (41 ∷ 10 ∷ []) (all-writable (IsGoodDemand (length file.nodes)) (demand_tokens file.nodes) file.demands (demand-writable file.nodes h.nodes) h.demands)) in
      let b : IsCutInto dialects.Network links (section_tokens (codes "LINKS") link_ls) (demands ++ []) =
      section_cut dialects.Network (codes "LINKS") (link_lines file.nodes file.links) (demands ++ []) link_ls links_word
      (lines_cut dialects.Network (link_tokens file.nodes) file.links (41 ∷ 10 ∷ (demands ++ [])) (all-writable (IsGoodLink (length file.nodes)) (link_tokens file.nodes) file.links (link-writable file.nodes h.nodes) h.links)) in
      let c : IsCutInto dialects.Network nodes (section_tokens (codes "NODES") node_ls) ((links ++ demands) ++ []) =
      section_cut dialects.Network (codes "NODES") (node_lines file.nodes) ((links ++ demands) ++ []) node_ls nodes_word
      (lines_cut dialects.Network node_tokens file.nodes (41 ∷ 10 ∷ ((links ++ demands) ++ [])) (all-writable IsGoodNode node_tokens file.nodes node-writable h.nodes)) in
      glue dialects.Network (10 ∷ []) (nodes ++ (links ++ demands)) [] [] (network_tokens file) (blank_cut dialects.Network 10 ((nodes ++ (links ++ demands)) ++ []) refl)
      (glue dialects.Network nodes (links ++ demands) [] (section_tokens (codes "NODES") node_ls) (section_tokens (codes "LINKS") link_ls ++ section_tokens (codes "DEMANDS") demand_ls) c
      (glue dialects.Network links demands [] (section_tokens (codes "LINKS") link_ls) (section_tokens (codes "DEMANDS") demand_ls) b a))

  -- the canonical text of a well-formed network spells that network
  pub spelt : (file : NetworkFile) → IsWellFormed file → SpellsNetwork (network_text file) file
  unfolding network_text
  spelt file h =
      let text = network_text file in
      let rest = behind file in
      let base = length text - length rest in
      let cut = has_lexemes dialects.Network rest (network_tokens file) (text-cut file h) in
      let ts = placed base rest cut.tokens in
      let read = (reads_network numbers.back file h).found ts (placed_seen dialects.Network base rest (network_tokens file) cut) in
      record {
        draft = read.value;
        spelt = record {
          ts = ts;
          tokens = record {
            rest = rest;
            header = record { blanks = []; whole = refl; are_blank = tt; line_ends = refl };
            tokens = cut.tokens;
            cut = cut.cut;
            these = refl;
          };
          form = read.form;
        };
        found = read.good;
      }

use Rattle.std.proofs.Common.{◌≡◌, ℕ, List, [], ◌∷◌, ◌++◌, ◌∙◌, append_assoc}
use Rattle.std.specs.Prelude.{codes}
use Rattle.snd_reader.specs.Writing.{section_text}
use Rattle.snd_network.specs.Spelling.{network_header}
use Rattle.snd_network.specs.Writing.{node_lines, link_lines, demand_lines, network_text}
use Rattle.snd_network.proofs.writing.canonical_text.Goals as goal

in-turn : (header nodes links demands : List ℕ) → ((header ++ nodes) ++ links) ++ demands ≡ header ++ (nodes ++ (links ++ demands))
in-turn header nodes links demands = append_assoc (header ++ nodes) links demands ∙ append_assoc header nodes (links ++ demands)

pub returns : goal.returns
unfolding network_text
returns c =
    let file = c.args.file.now in
    let nodes = section_text (codes "NODES") (node_lines file.nodes) in
    let links = section_text (codes "LINKS") (link_lines file.nodes file.links) in
    let demands = section_text (codes "DEMANDS") (demand_lines file.nodes file.demands) in
    rw (c.in_ok-push_section-3.ensures, c.in_ok-push_section-2.ensures, c.in_ok-push_section.ensures, c.in_ok-text.ensures.items, c.as_slice-nodes.ensures.value, c.as_slice.ensures.value, c.as_slice-2.ensures.value)
    (in-turn (network_header ++ 10 ∷ []) nodes links demands)

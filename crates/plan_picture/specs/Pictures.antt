-- The picture of a valid plan.
use Rattle.std.specs.Prelude.{ℕ, zero, suc, ◌≡◌, ◌<◌, List, [], ◌∷◌, ◌++◌, length, codes, drop, nat_eq, slice_index, flat_map, Bool, false, ◌||◌, ◌==◌, if◌then◌else◌, Option, Some, None, IfSome}
use Rattle.std.specs.List.{range_with_len}
use Rattle.plan_base.specs.declared.limits.TheConstants.{MAX_PLACES}
use Rattle.plan_base.specs.declared.parts.Orient.{Orient}
use Rattle.plan_base.specs.declared.parts.Orient.TheVariants.{Directed, Undirected, Bidirected}
use Rattle.plan_base.specs.declared.parts.Parts.{Parts}
use Rattle.plan_base.specs.declared.path.Design.{Design}
use Rattle.plan_base.specs.Arcs.{demand_at}
use Rattle.plan_base.specs.Designs.{path_at, load_at}
use Rattle.snd_network.specs.declared.file.NetworkFile.{NetworkFile}
use Rattle.proof_tree.specs.declared.plan.Plan.{Plan}
use Rattle.plan_report.specs.Lines.{numbers}
use Rattle.plan_report.specs.Reports.{node_name, link_name, demand_name, trial_line}
use Rattle.picture_layout.specs.declared.looks.Spot.{Spot}
use Rattle.picture_layout.specs.declared.looks.Looks.{Looks}
use Rattle.picture_layout.specs.Places.{HasLooks}
use Rattle.picture_marks.specs.declared.marks.Traffic.{Traffic}
use Rattle.picture_marks.specs.Escapes.{escaped}
use Rattle.picture_marks.specs.Marks.{node_look, link_look, label_text, node_text, link_text, traffic_on, figures}

-- ---- pictures

-- the encoding that a picture states: whether it is UTF-8
abbrev pub encoding : Bool → List ℕ
encoding utf8 = if utf8 then codes "UTF-8" else codes "ISO-8859-1"

-- what a picture begins with: its encoding, a frame and a style
unfoldable pub head : Bool → List ℕ
head utf8 =
    codes "<?xml version='1.0' encoding='" ++ encoding utf8
    ++ codes "'?>\n<svg xmlns='http://www.w3.org/2000/svg' width='1200' height='900' viewBox='0 0 1200 900'>\n<style>\ntext{font-family:sans-serif;fill:#222}\n.place,.name,.figures{text-anchor:middle;paint-order:stroke;stroke:#fff;stroke-width:3px}\n.place{font-size:13px;font-weight:bold}\n.name{font-size:10px;fill:#555}\n.figures{font-size:10px;font-weight:bold}\n.legend{font-size:15px}\n.node{fill:#fff;stroke:#222;stroke-width:2px}\n.end{fill:#9ecae1}\n.link,.key{fill:none}\n.directed .link,.bidirected .link{marker-end:url(#arrow)}\n.bidirected .link{marker-start:url(#arrow-back)}\n.link,.key.old{stroke-dasharray:14 4}\n.link.new{stroke-dasharray:none}\n.link.unused,.key.unused{stroke:#999;stroke-dasharray:5 5}\n.low{stroke:#2b9348}\n.middle{stroke:#a3a000}\n.high{stroke:#e6a100}\n.brim{stroke:#e05d00}\n.full{stroke:#a3002b}\n.old{stroke:#555}\n.dim{opacity:.2}\n</style>\n<defs><marker id='arrow' markerUnits='userSpaceOnUse' markerWidth='14' markerHeight='10' refX='20' refY='5' orient='auto'><path d='M0 0L14 5L0 10z' fill='#444'/></marker><marker id='arrow-back' markerUnits='userSpaceOnUse' markerWidth='14' markerHeight='10' refX='-6' refY='5' orient='auto'><path d='M14 0L0 5L14 10z' fill='#444'/></marker></defs>\n<rect width='1200' height='900' fill='#fff'/>\n"

-- the group that has all marks
abbrev pub group : Orient → List ℕ
group Directed = codes "<g class='directed'>\n"
group Undirected = codes "<g class='undirected'>\n"
group Bidirected = codes "<g class='bidirected'>\n"

-- these are the loads of the places in a plan's design, where it has one
abbrev pub HasLoads : Parts → Option (ℕ × Design) → List ℕ → Type 0
HasLoads p design loads = IfSome design (λ stated. (q : ℕ) → q < MAX_PLACES → slice_index loads q ≡ load_at p stated.1 q)

-- a plan with its network and its instance, and the number of the demand whose path is lit, if one is
pub record Lit : Type 0 where
  pub net : NetworkFile
  pub parts : Parts
  pub plan : Plan
  pub demand : Option ℕ

-- a plan and the places of its marks
pub record Drawn : Type 0 where
  pub of : Lit
  pub looks : Looks

-- the traffic on a link of a plan's design, where it has one
abbrev pub traffic_of : Parts → Option (ℕ × Design) → Option ℕ → ℕ → Option Traffic
traffic_of p None lit e = None
traffic_of p (Some design) lit e = Some (traffic_on p design.1 lit e)

-- the mark of the link of this number
unfoldable pub link_mark : NetworkFile → Parts → Option (ℕ × Design) → Option ℕ → Looks → ℕ → List ℕ
link_mark net p design lit looks e = link_text (link_name net e) p looks (traffic_of p design lit e) e

-- the marks of so many links
abbrev pub link_marks : NetworkFile → Parts → Option (ℕ × Design) → Option ℕ → Looks → ℕ → List ℕ
link_marks net p design lit looks count = flat_map (link_mark net p design lit looks) (range_with_len 0 count)

-- the name of the link of this number, at its place
unfoldable pub link_label : NetworkFile → Looks → ℕ → List ℕ
link_label net looks e = label_text (codes "name") (link_look looks e).label (link_name net e)

-- the names of so many links
abbrev pub link_labels : NetworkFile → Looks → ℕ → List ℕ
link_labels net looks count = flat_map (link_label net looks) (range_with_len 0 count)

-- figures at their place, where there is one
unfoldable pub figures_at : Option Spot → List ℕ → List ℕ
figures_at None text = []
figures_at (Some spot) text = label_text (codes "figures") spot text

-- the figures of the link of this number, where it has a place for them
unfoldable pub link_figures : Parts → Option (ℕ × Design) → Option ℕ → Looks → ℕ → List ℕ
link_figures p design lit looks e = figures_at (link_look looks e).figures (figures (traffic_of p design lit e))

-- the figures of so many links
abbrev pub all_figures : Parts → Option (ℕ × Design) → Option ℕ → Looks → ℕ → List ℕ
all_figures p design lit looks count = flat_map (link_figures p design lit looks) (range_with_len 0 count)

-- the demand of this number ends at the node
unfoldable pub ends_at : Parts → ℕ → ℕ → Bool
ends_at p n k = (demand_at p k).source.0 == n || (demand_at p k).target.0 == n

-- one of so many demands ends at the node
abbrev pub any_ends_at : Parts → ℕ → ℕ → Bool
any_ends_at p n zero = false
any_ends_at p n (suc k) = any_ends_at p n k || ends_at p n k

-- the demand that is to be lit ends at the node, or where none is to be lit any demand does
abbrev pub is_end : Parts → Option ℕ → ℕ → Bool
is_end p None n = any_ends_at p n (length p.demands)
is_end p (Some k) n = ends_at p n k

-- the mark of the node of this number, with its name
unfoldable pub node_mark : NetworkFile → Parts → Option ℕ → Looks → ℕ → List ℕ
node_mark net p lit looks n = node_text (node_name net n) (is_end p lit n) (node_look looks n)

-- the marks of so many nodes
abbrev pub node_marks : NetworkFile → Parts → Option ℕ → Looks → ℕ → List ℕ
node_marks net p lit looks count = flat_map (node_mark net p lit looks) (range_with_len 0 count)

-- what stands before the name of the demand that is to be lit: whether the plan has a path of it
abbrev pub path_words : Option (ℕ × Design) → List ℕ
path_words None = codes "no path of "
path_words (Some design) = codes "the path of "

-- what stands between the number of a path's links and the limit
abbrev pub link_words : ℕ → List ℕ
link_words arcs = if nat_eq arcs 1 then codes " link of at most" else codes " links of at most"

-- how many links a path has, and how many it may have, where there is a limit
unfoldable pub limit_text : Option ℕ → ℕ → List ℕ
limit_text None arcs = []
limit_text (Some limit) arcs = codes ":" ++ numbers (arcs ∷ []) ++ link_words arcs ++ numbers (limit ∷ [])

-- how many links the path of the demand of this number has, and how many it may have, where it has a path and a limit
unfoldable pub count_text : Parts → Option (ℕ × Design) → ℕ → List ℕ
count_text p None k = []
count_text p (Some design) k = limit_text (demand_at p k).hops (length (path_at design.1 k))

-- what is told of the demand of this name and this number
unfoldable pub path_text : Parts → Option (ℕ × Design) → List ℕ → ℕ → List ℕ
path_text p design name k = codes "<text class='legend' x='60' y='820'>" ++ path_words design ++ escaped name ++ count_text p design k ++ codes "</text>\n"

-- what is told of the demand that is to be lit
abbrev pub lit_text : NetworkFile → Parts → Option (ℕ × Design) → Option ℕ → List ℕ
lit_text net p design None = []
lit_text net p design (Some k) = path_text p design (demand_name net k) k

-- the sizes of the instance and what the plan claims: the line of a trial without its first word
unfoldable pub claim_text : Parts → Plan → List ℕ
claim_text p plan = codes "<text class='legend' x='60' y='845'>" ++ drop 6 (trial_line p plan) ++ codes "</text>\n"

-- the colours, dashes and widths of links, the marks of nodes and the figures, with what they say, and the end
abbrev pub keys : List ℕ
keys = codes "<path class='key unused' stroke-width='1' d='M60 866H95'/><text class='legend' x='103' y='871'>no load</text>\n<path class='key low' stroke-width='6' d='M190 866H225'/><text class='legend' x='233' y='871'>up to a half full</text>\n<path class='key middle' stroke-width='6' d='M380 866H415'/><text class='legend' x='423' y='871'>up to four fifths</text>\n<path class='key high' stroke-width='6' d='M570 866H605'/><text class='legend' x='613' y='871'>up to nine tenths</text>\n<path class='key brim' stroke-width='6' d='M770 866H805'/><text class='legend' x='813' y='871'>less than full</text>\n<path class='key full' stroke-width='6' d='M940 866H975'/><text class='legend' x='983' y='871'>full</text>\n<path class='key old' stroke-width='6' d='M60 888H95'/><text class='legend' x='103' y='893'>nothing new is installed</text>\n<path class='key old' style='stroke-dasharray:none' stroke-width='2' d='M310 888H345'/><path class='key old' style='stroke-dasharray:none' stroke-width='10' d='M350 888H385'/><text class='legend' x='393' y='893'>the wider, the more capacity</text>\n<circle class='end node' r='7' cx='640' cy='888'/><text class='legend' x='655' y='893'>a demand ends here</text>\n<text class='legend' x='830' y='893'>6/10: load and capacity, where there is room</text>\n</g>\n</svg>\n"

-- the marks of a picture with these looks: the links, their names and figures, the nodes with their names, and what is told below them
abbrev pub body_text : NetworkFile → Parts → Plan → Option ℕ → Looks → List ℕ
body_text net p plan lit looks =
    group p.orient
    ++ link_marks net p plan.design lit looks (length p.links)
    ++ link_labels net looks (length p.links)
    ++ all_figures p plan.design lit looks (length p.links)
    ++ node_marks net p lit looks p.nodes
    ++ lit_text net p plan.design lit ++ claim_text p plan ++ keys

-- a picture of the plan: each node and each link has its mark and its name, wherever they stand and however wide they are; figures are those of their links
pub record IsPicture (net : NetworkFile) (p : Parts) (plan : Plan) (lit : Option ℕ) (bytes : List ℕ) : Type 0 where
  pub utf8 : Bool
  pub looks : Looks
  pub has_looks : HasLooks looks p.nodes (length p.links)
  pub text : bytes ≡ head utf8 ++ body_text net p plan lit looks

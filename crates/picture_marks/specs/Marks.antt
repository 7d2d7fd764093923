-- The marks of a picture. Where they stand and how wide they are is told by their looks.
use Rattle.std.specs.Prelude.{ℕ, ◌-◌, ◌/◌, Bool, List, [], ◌∷◌, ◌++◌, codes, decimal, if◌then◌else◌, nat_eq, nat_le, slice_index_or, Option, Some, None}
use Rattle.plan_base.specs.declared.parts.Parts.{Parts}
use Rattle.plan_base.specs.declared.path.Design.{Design}
use Rattle.plan_base.specs.Arcs.{link_at}
use Rattle.plan_base.specs.Places.{is_two_way, there_of, back_of}
use Rattle.plan_base.specs.Designs.{path_at, counts_at, load_at, need, capacity_with}
use Rattle.plan_base.specs.Paths.{uses}
use Rattle.scaled_numbers.specs.Canonical.{grains_text}
use Rattle.picture_marks.specs.declared.marks.TheConstants.{LOAD_SCALE}
use Rattle.picture_marks.specs.declared.marks.Light.{Light}
use Rattle.picture_marks.specs.declared.marks.Light.TheVariants as lights
use Rattle.picture_marks.specs.declared.marks.Traffic.{Traffic}
use Rattle.picture_layout.specs.declared.looks.Spot.{Spot}
use Rattle.picture_layout.specs.declared.looks.NodeLook.{NodeLook}
use Rattle.picture_layout.specs.declared.looks.LinkLook.{LinkLook}
use Rattle.picture_layout.specs.declared.looks.Looks.{Looks}
use Rattle.picture_marks.specs.Escapes.{escaped}

-- ---- looks

-- the corner of a picture
abbrev pub corner : Spot
corner = record { x = 0; y = 0 }

-- the look of the node of this number
abbrev pub node_look : Looks → ℕ → NodeLook
node_look looks n = slice_index_or looks.nodes n record { at = corner; label = corner }

-- the look of the link of this number
abbrev pub link_look : Looks → ℕ → LinkLook
link_look looks e = slice_index_or looks.links e record { bend = corner; label = corner; figures = None; width = 0 }

-- two numbers, each behind a blank
unfoldable pub spot_text : Spot → List ℕ
spot_text spot = 32 ∷ decimal spot.x ++ 32 ∷ decimal spot.y

-- a name at a place, in this class
unfoldable pub label_text : List ℕ → Spot → List ℕ → List ℕ
label_text class spot name =
    codes "<text class='" ++ class ++ codes "' dy='.35em' transform='translate(" ++ spot_text spot ++ codes ")'>" ++ escaped name ++ codes "</text>\n"

-- ---- nodes

-- the class of a node that is an end of a demand, behind a blank
abbrev pub end_word : Bool → List ℕ
end_word is_end = if is_end then codes " end" else []

-- the circle of a node of this name at a place, which is an end of a demand or not
unfoldable pub circle_text : List ℕ → Bool → Spot → List ℕ
circle_text name is_end at =
    codes "<circle class='node" ++ end_word is_end ++ codes "' r='7' transform='translate(" ++ spot_text at ++ codes ")'><title>" ++ escaped name ++ codes "</title></circle>\n"

-- the mark of a node of this name, and its name
abbrev pub node_text : List ℕ → Bool → NodeLook → List ℕ
node_text name is_end look = circle_text name is_end look.at ++ label_text (codes "place") look.label name

-- ---- links

-- how full a link is that needs so much: without a load, up to a half, at its capacity, with a fifth or a tenth of it, each rounded down, left, or with less
abbrev pub shade : ℕ → ℕ → List ℕ
shade needed capacity =
    if nat_eq needed 0 then codes "unused"
    else if nat_le needed (capacity / 2) then codes "low"
    else if nat_le capacity needed then codes "full"
    else if nat_le needed (capacity - capacity / 5) then codes "middle"
    else if nat_le needed (capacity - capacity / 10) then codes "high"
    else codes "brim"

-- the class that goes with a light, behind a blank
abbrev pub light_word : Light → List ℕ
light_word lights.Plain = []
light_word lights.Lit = codes " lit"
light_word lights.Dim = codes " dim"

-- the light on a link where the path of this demand is lit, if one is
abbrev pub light_on : Design → Option ℕ → ℕ → Light
light_on d None e = lights.Plain
light_on d (Some k) e = if uses e (path_at d k) then lights.Lit else lights.Dim

-- the load of a link's other place, where it has one
abbrev pub back_load : Parts → Design → ℕ → Option ℕ
back_load p d e = if is_two_way p.orient then Some (back_of p (load_at p d) e) else None

-- the loads of a link's places, the capacity that it needs, the one that it has and how much of it is new, and the light on it
abbrev pub traffic_on : Parts → Design → Option ℕ → ℕ → Traffic
traffic_on p d lit e = record {
  load = there_of p (load_at p d) e;
  back = back_load p d e;
  need = need p d e;
  capacity = capacity_with (link_at p e) (counts_at d e);
  new = capacity_with (link_at p e) (counts_at d e) - (link_at p e).pre;
  light = light_on d lit e;
}

-- the class of a link on which something is installed anew, behind a blank
abbrev pub new_word : ℕ → List ℕ
new_word new = if nat_eq new 0 then [] else codes " new"

-- the classes of a link
unfoldable pub classes : Option Traffic → List ℕ
classes None = codes "unused"
classes (Some on) = shade on.need on.capacity ++ new_word on.new ++ light_word on.light

-- a word and the load of a link's other place, where it has one
unfoldable pub back_text : List ℕ → Option ℕ → List ℕ
back_text word None = []
back_text word (Some back) = word ++ grains_text back LOAD_SCALE

-- what is told of a link of this name
unfoldable pub title : List ℕ → Option Traffic → List ℕ
title name None = escaped name
title name (Some on) =
    escaped name ++ codes " load " ++ grains_text on.load LOAD_SCALE ++ back_text (codes " back ") on.back
    ++ codes " capacity " ++ grains_text on.capacity LOAD_SCALE ++ codes " new " ++ grains_text on.new LOAD_SCALE

-- the figures of a link: its load or its two loads, and its capacity; nothing where there is no design
unfoldable pub figures : Option Traffic → List ℕ
figures None = []
figures (Some on) = grains_text on.load LOAD_SCALE ++ back_text (codes "+") on.back ++ 47 ∷ grains_text on.capacity LOAD_SCALE

-- how a link of this width is drawn
unfoldable pub stroke_text : Option Traffic → ℕ → List ℕ
stroke_text traffic width = codes "<path class='link " ++ classes traffic ++ codes "' stroke-width='" ++ decimal width

-- the line of a link between the marks of its ends
unfoldable pub curve_text : Spot → Spot → Spot → List ℕ
curve_text from bend to = spot_text from ++ codes " Q" ++ spot_text bend ++ spot_text to

-- what is told of a link of this name, and the end of its mark
unfoldable pub hover_text : List ℕ → Option Traffic → List ℕ
hover_text name traffic = codes "'><title>" ++ title name traffic ++ codes "</title></path>\n"

-- the mark of the link of this number, with this name
abbrev pub link_text : List ℕ → Parts → Looks → Option Traffic → ℕ → List ℕ
link_text name p looks traffic e =
    stroke_text traffic (link_look looks e).width ++ codes "' d='M"
    ++ curve_text (node_look looks (link_at p e).source.0).at (link_look looks e).bend (node_look looks (link_at p e).target.0).at ++ hover_text name traffic

-- The versions of plan texts: which cuts and records each has a line for, and which is written.
use Rattle.std.specs.Prelude.{◌≡◌, Bool, true, false, not, if◌then◌else◌, ◌&&◌, ◌||◌, List, [], ◌∷◌, ⊤, IsTrue}
use Rattle.std.specs.List.{list_any, AllByRecursion}
use Rattle.proof_tree.specs.declared.cuts.Cut.{Cut as LoadCut}
use Rattle.proof_tree.specs.declared.tree.Evidence.TheVariants.{Far}
use Rattle.proof_tree.specs.declared.tree.TreeNode.{TreeNode}
use Rattle.proof_tree.specs.declared.tree.TreeNode.TheVariants.{Loads, Leaf}
use Rattle.cert_format.specs.declared.form.Form.{Form}
use Rattle.cert_format.specs.declared.form.Form.TheVariants.{First, Second, Third}

-- the record is a load split
abbrev pub is_loads : TreeNode → Bool
is_loads (Loads place load) = true
is_loads _ = false

-- the record is a leaf where a demand is far
abbrev pub is_far : TreeNode → Bool
is_far (Leaf (Far demand)) = true
is_far _ = false

-- some record is a load split
abbrev pub has_loads : List TreeNode → Bool
has_loads nodes = list_any is_loads nodes

-- there is a cut
abbrev pub has_cuts : List LoadCut → Bool
has_cuts [] = false
has_cuts (cut ∷ cuts) = true

-- there is a cut or a load split, for which the third version alone has lines
abbrev pub has_thirds : List LoadCut → List TreeNode → Bool
has_thirds cuts nodes = has_cuts cuts || has_loads nodes

-- the version has lines for the cuts: the third alone has some
abbrev pub TellsCuts : Form → List LoadCut → Type 0
TellsCuts First cuts = cuts ≡ []
TellsCuts Second cuts = cuts ≡ []
TellsCuts Third cuts = ⊤

-- the version has a line for the record: the third alone has one for a load split, and the first has none for a leaf where a demand is far
abbrev pub has_line : Form → TreeNode → Bool
has_line First node = not (is_loads node) && not (is_far node)
has_line Second node = not (is_loads node)
has_line Third node = true

-- the version has a line for each record
abbrev pub HasLines : Form → List TreeNode → Type 0
HasLines form nodes = AllByRecursion (λ node. IsTrue (has_line form node)) nodes

-- the cuts and records ask for the version: a text of the third one has a cut or a load split
abbrev pub is_asked : Form → List LoadCut → List TreeNode → Bool
is_asked First cuts nodes = true
is_asked Second cuts nodes = true
is_asked Third cuts nodes = has_thirds cuts nodes

-- the version in which a plan with these cuts and records is written
abbrev pub written_form : List LoadCut → List TreeNode → Form
written_form cuts nodes = if has_thirds cuts nodes then Third else Second

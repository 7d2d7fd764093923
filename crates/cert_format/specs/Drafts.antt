-- Beginnings of plan texts: what may still become one, or stops where the tree is not whole.
use Rattle.std.specs.Prelude.{ℕ, zero, suc, ◌≡◌, ◌≤◌, Bool, if◌then◌else◌, ◌==◌, ◌&&◌, List, [], ◌∷◌, ◌++◌, length, map, IfSome}
use Rattle.std.specs.List.{AllByRecursion}
use Rattle.proof_tree.specs.declared.limits.TheConstants.{MAX_RECORDS}
use Rattle.proof_tree.specs.declared.tree.TreeNode.{TreeNode}
use Rattle.proof_tree.specs.declared.tree.TreeNode.TheVariants.{Split, Loads, Leaf}
use Rattle.proof_tree.specs.declared.plan.Plan.{Plan}
use Rattle.proof_tree.specs.Shapes.{are_trees}
use Rattle.proof_tree.specs.Spellings.{numbers_in, FitsRecord, FitsDesign, FitsStatus, FitsSizes, FitsCuts}
use Rattle.cert_format.specs.declared.form.Form.{Form}
use Rattle.cert_format.specs.declared.form.Form.TheVariants.{First, Second, Third}
use Rattle.cert_format.specs.declared.limits.TheConstants.{MAX_LISTS}
use Rattle.plan_tokens.specs.Lines.{Line, whole, text_of, lines_of}
use Rattle.cert_format.specs.Versions.{TellsCuts, HasLines, is_asked}
use Rattle.cert_format.specs.Lists.{named_from, AreNamed, AreNew}
use Rattle.cert_format.specs.Grammar.{front_lines, tree_lines, end_line, CanTell, HasFields, SpellsPlan}

-- how many trees are left to come behind a record, where so many others were to come behind the one that it begins
unfoldable pub left_open : TreeNode → ℕ → ℕ
left_open (Leaf evidence) others = others
left_open (Split demand at left right) others = suc (suc others)
left_open (Loads place load) others = suc (suc others)

-- records, of which so many are stated, where so many trees are to come: they end with the last of these trees or as many as stated
unfoldable pub IsGrown : ℕ → ℕ → List TreeNode → Type 0
IsGrown zero trees nodes = nodes ≡ []
IsGrown (suc left) zero nodes = nodes ≡ []
IsGrown (suc left) (suc others) [] = ⊥
IsGrown (suc left) (suc others) (node ∷ nodes) = IsGrown left (left_open node others) nodes

-- what the beginning of a text states: its version, how many price lists, those that are there, how many records, and a plan
pub record Stated : Type 0 where
  pub form : Form
  pub stated : ℕ
  pub lists : List (List ℕ)
  pub count : ℕ
  pub plan : Plan

-- different price lists with so many numbers each, and no more than stated
abbrev pub AreStated : ℕ → ℕ → List (List ℕ) → Type 0
AreStated entries stated lists = (stated ≤ MAX_LISTS) × (length lists ≤ stated) × AreNew entries [] lists

-- price lists as the version has them: the first one has none
abbrev pub AreListed : Form → ℕ → ℕ → List (List ℕ) → Type 0
AreListed First entries stated lists = (stated ≡ 0) × (lists ≡ [])
AreListed Second entries stated lists = AreStated entries stated lists
AreListed Third entries stated lists = AreStated entries stated lists

-- a plan that a text can spell, but that its tree may be cut off or shorter than the count that is stated, and price lists may lack
pub record IsDraft (s : Stated) : Type 0 where
  pub sizes : FitsSizes s.plan
  pub told : CanTell s.form s.plan.both
  pub status : FitsStatus s.plan.status s.plan.design s.plan.bound
  pub design : IfSome s.plan.design (λ design. FitsDesign s.plan.demands s.plan.links design.1)
  pub fields : HasFields s.plan
  pub cuts : FitsCuts s.plan.nodes s.plan.cuts
  pub cuts_told : TellsCuts s.form s.plan.cuts
  pub listed : AreListed s.form (numbers_in s.plan) s.stated s.lists
  pub some : 1 ≤ s.count
  pub few : s.count ≤ MAX_RECORDS
  pub grown : IsGrown s.count 1 s.plan.tree
  pub records : AllByRecursion (FitsRecord s.plan.nodes (numbers_in s.plan)) s.plan.tree
  pub lines : HasLines s.form s.plan.tree
  pub named : AreNamed s.form s.lists 0 s.plan.tree

-- there are as many records as stated, and each price list is named
abbrev pub has_counts : Stated → Bool
has_counts s = length s.plan.tree == s.count && named_from s.form s.lists 0 s.plan.tree == length s.lists

-- the tree is whole and has as many records as stated, each price list is named, and the version is asked for
abbrev pub is_complete : Stated → Bool
is_complete s = are_trees 1 s.plan.tree && (has_counts s && is_asked s.form s.plan.cuts s.plan.tree)

-- the lines before the tree
abbrev pub front_of : Stated → List Line
front_of s = map whole (front_lines s.form s.stated s.lists s.plan)

-- the lines of the tree
abbrev pub stated_tree_lines : Stated → List Line
stated_tree_lines s = map whole (tree_lines s.form s.lists s.count s.plan.tree)

-- the last line, which stands only where the tree is whole and as long as stated, each price list is named, and the version is asked for
abbrev pub closing_lines : Stated → List Line
closing_lines s = if is_complete s then whole end_line ∷ [] else []

-- the lines of a draft: where price lists lack it breaks off behind those that are there
abbrev pub draft_lines : Stated → List Line
draft_lines s = front_of s ++ (if length s.lists == s.stated then stated_tree_lines s ++ closing_lines s else [])

-- these lines begin the lines of a draft
pub record IsBegun (lines : List Line) : Type 0 where
  pub states : Stated
  pub more : List Line
  pub draft : IsDraft states
  pub begins : draft_lines states ≡ lines ++ more

-- the line that begins at this byte cannot stand there, and all lines before it can
pub record IsMisplaced (text : List ℕ) (at : ℕ) : Type 0 where
  pub before : List Line
  pub line : Line
  pub after : List Line
  pub lines : lines_of text ≡ before ++ line ∷ after
  pub place : at ≡ length (text_of before)
  pub begun : IsBegun before
  pub bad : IsBegun (before ++ line ∷ []) → ⊥

-- all lines of the text can stand, and it spells no plan: a further line must follow
pub record IsUnfinished (text : List ℕ) (at : ℕ) : Type 0 where
  pub place : at ≡ length text
  pub begun : IsBegun (lines_of text)
  pub unfinished_text : (plan : Plan) → SpellsPlan text plan → ⊥

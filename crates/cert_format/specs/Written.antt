-- What the writing functions append. No public clause cites this module.
use Rattle.std.specs.Prelude.{◌≡◌, List, ℕ, ◌∷◌, ◌++◌, length, map, codes, OnOk, Result}
use Rattle.proof_tree.specs.declared.tree.TreeNode.{TreeNode}
use Rattle.plan_tokens.specs.Lines.{whole, text_of}
use Rattle.cert_format.specs.Lists.{lists_of, with_number}
use Rattle.cert_format.specs.Grammar.{number_line, record_line, list_lines, HasRecordFields}

-- the bytes of whole lines
abbrev pub lines_text : List (List ℕ) → List ℕ
lines_text bodies = text_of (map whole bodies)

-- the lines of records, each with the number of its list
abbrev pub numbered_lines : List (List ℕ) → List TreeNode → List (List ℕ)
numbered_lines lists nodes = map (λ node. record_line (with_number lists node)) nodes

-- the lines of a tree behind those of its price lists
abbrev pub written_tree : List TreeNode → List (List ℕ)
written_tree nodes = list_lines (length (lists_of nodes)) (lists_of nodes) ++ (number_line (codes "TREE") (length nodes) ∷ numbered_lines (lists_of nodes) nodes)

-- the numbers of a record as its line shows it
abbrev pub HasShownFields : List (List ℕ) → TreeNode → Type 0
HasShownFields lists node = HasRecordFields (with_number lists node)

-- where nothing went wrong, these bytes were appended
abbrev pub Appends : {E : Type 0} → Result (Unit {0}) E → List ℕ → List ℕ → List ℕ → Type 0
Appends result old new bytes = OnOk result (new ≡ old ++ bytes)

use Rattle.std.proofs.Common.{◌≡◌, ◌≤◌, ◌-◌, ◌++◌, ◌∷◌, [], length, take, map, codes}
use Rattle.std.specs.List.{AllByRecursion}
use Rattle.plan_tokens.specs.Lines.{whole, line_text}
use Rattle.plan_tokens.specs.Words.{row}
use Rattle.cert_format.specs.Grammar.{price_line, AreWithin}
use Rattle.cert_format.specs.Written.{lines_text}
use Rattle.cert_format.proofs.writing.push_lists.Given as goal

abbrev pub invariant-loop-list : goal.invariant-loop-list
invariant-loop-list l = record {
  text : l.out.items ≡ (l.fn.out.items ++ line_text (whole (row (codes "PRICES") (length l.lists ∷ [])))) ++ lines_text (map price_line (take l.number l.lists));
  fields : AllByRecursion (AreWithin 128) (take l.number l.lists);
  within : l.number ≤ length l.lists;
}

abbrev pub decreases-loop-list : goal.decreases-loop-list
decreases-loop-list l = length l.lists - l.number

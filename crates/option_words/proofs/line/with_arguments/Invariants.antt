use Rattle.std.proofs.Common.{◌≡◌, map, take}
use Rattle.clap.specs.Words.{app_of}
use Rattle.option_words.specs.Line.{with_rules, rule_for}
use Rattle.option_words.proofs.line.with_arguments.Given as goal

abbrev pub invariant-loop-id : goal.invariant-loop-id
invariant-loop-id l = app_of l.line ≡ with_rules (app_of l.fn.line) (map (rule_for l.are_names) (map (λ id. id.now) (take l.id-index l.ids)))

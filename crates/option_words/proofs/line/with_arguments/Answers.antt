use Rattle.std.proofs.Common.{◌∙◌, ap}
use Rattle.clap.specs.Words.{app_of, with_rule}
use Rattle.option_words.specs.Line.{rule_for}
use Rattle.option_words.proofs.Tables.{line_more}
use Rattle.option_words.proofs.line.with_arguments.Goals as goal

pub loop-id-preserved : goal.loop-id-preserved
loop-id-preserved c =
    line_more (rule_for c.args.are_names) (app_of c.args.line) (app_of c.loop-id.line) (app_of c.in_ok-line.line) c.args.ids.now c.loop-id.id-index _ c.loop-id-test.true c.loop-id.invariant
    (c.in_ok-line.ensures.shape c.argument.ensures.own ∙ ap (with_rule (app_of c.loop-id.line)) c.argument.ensures.rule)

use Rattle.std.proofs.Common.{◌≡◌, ◌∙◌, ap, map, string_bytes, option_map, option_and_then}
use Rattle.option_words.specs.Given.{told}
use Rattle.command_words.specs.Words.{plan_said, plan_options, network_names, command_now}
use Rattle.command_words.proofs.command.plan_in.Goals as goal

pub returns-clause-value : goal.returns-clause-value
returns-clause-value c = c.plan_said.ensures.value ∙ ap (option_and_then plan_said) c.in_ok-given.ensures

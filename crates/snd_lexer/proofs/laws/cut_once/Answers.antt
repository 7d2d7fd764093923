use Rattle.snd_lexer.proofs.Cuts.{only_tokens, only_stop, not_both}
use Rattle.snd_lexer.proofs.laws.cut_once.Goals as goal

pub returns-clause-tokens : goal.returns-clause-tokens
returns-clause-tokens c = only_tokens

pub returns-clause-stop : goal.returns-clause-stop
returns-clause-stop c = only_stop

pub returns-clause-apart : goal.returns-clause-apart
returns-clause-apart c = not_both

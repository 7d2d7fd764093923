use Rattle.snd_lexer.proofs.Shown.{one_shown_list, shown_is_cut}
use Rattle.snd_lexer.proofs.laws.shown_once.Goals as goal

pub returns-clause-one : goal.returns-clause-one
returns-clause-one c = one_shown_list

pub returns-clause-cut : goal.returns-clause-cut
returns-clause-cut c = shown_is_cut

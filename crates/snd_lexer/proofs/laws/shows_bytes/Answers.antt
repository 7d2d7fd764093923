use Rattle.snd_lexer.proofs.Shown.{lexes_shows}
use Rattle.snd_lexer.proofs.laws.shows_bytes.Goals as goal

pub returns : goal.returns
returns c = lexes_shows

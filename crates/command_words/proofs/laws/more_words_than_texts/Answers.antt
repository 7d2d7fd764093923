use Rattle.command_words.proofs.Counts.{word_count}
use Rattle.command_words.proofs.laws.more_words_than_texts.Goals as goal

pub returns : goal.returns
returns c = word_count

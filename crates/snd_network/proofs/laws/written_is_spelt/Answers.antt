use Rattle.snd_network.proofs.Spelt.{spelt}
use Rattle.snd_network.proofs.laws.written_is_spelt.Goals as goal

pub returns : goal.returns
returns c = λ file good. spelt (record { back = c.written_is_read_back.ensures; some = c.written_is_one_word.ensures.some; bytes = c.written_is_one_word.ensures.bytes }) file good

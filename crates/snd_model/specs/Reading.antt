-- The readers of model texts, which the code follows; their forms are in Grammar.
use Rattle.std.specs.Prelude.{Option, Result}
use Rattle.snd_reader.specs.declared.fault.Complaint.{Complaint}
use Rattle.snd_reader.specs.Readers.{Placed, Reader, done, bind, token, items}
use Rattle.snd_reader.specs.Tests.{equals_test}
use Rattle.snd_model.specs.declared.keys.Key.{Key}
use Rattle.snd_model.specs.declared.setting.Setting.{Setting}
use Rattle.snd_model.specs.declared.draft.Draft.{Draft}
use Rattle.snd_model.specs.Grammar.{no_settings, and_setting}
use Rattle.snd_model.specs.Tests.{key_head, value_test}

-- reads an equals sign
abbrev pub equals : Reader (Unit {0})
equals = token (λ t. equals_test t.is)

-- reads a value of a key
abbrev pub value : Key → Reader Setting
value k = token (λ t. value_test k t.is)

-- what a token in a key's place stands for
abbrev pub key_turn : Draft → Placed → Result (Option Key) Complaint
key_turn d t = key_head d t.is

-- a pair behind its key
unfoldable pub pair : Draft → Key → Reader Draft
pair d k = bind equals (λ _. bind (value k) (λ s. done (and_setting d s)))

-- the pairs of a text, up to its end
abbrev pub pairs : Reader Draft
pairs = items key_turn pair no_settings

-- What single tokens stand for in model texts, or what is wrong with them.
use Rattle.std.specs.Prelude.{Bool, true, false, if◌then◌else◌, Option, Some, None, Result, Ok, Err}
use Rattle.snd_reader.specs.declared.fault.Wanted.{Wanted}
use Rattle.snd_reader.specs.declared.fault.Wanted.TheVariants as wants
use Rattle.snd_reader.specs.declared.fault.Complaint.{Complaint}
use Rattle.snd_reader.specs.declared.fault.Complaint.TheVariants.{Unexpected, Twice, Ended}
use Rattle.snd_reader.specs.Readers.{Lexeme, word, the_end}
use Rattle.snd_reader.specs.Tests.{refused}
use Rattle.snd_model.specs.declared.keys.Key.{Key}
use Rattle.snd_model.specs.declared.setting.Setting.{Setting}
use Rattle.snd_model.specs.declared.draft.Draft.{Draft}
use Rattle.snd_model.specs.Table.{key_named, setting_named}
use Rattle.snd_model.specs.Grammar.{has_setting, is_complete}

-- what is wanted in a key's place: a key, and behind the eighth pair nothing
abbrev pub wanted_next : Draft → Wanted
wanted_next d = if is_complete d then wants.Nothing else wants.Key

-- each key stands at most once
abbrev pub once : Bool → Key → Result (Option Key) Complaint
once true k = Err Twice
once false k = Ok (Some k)

-- a word in a key's place
abbrev pub key_begun : Draft → Option Key → Result (Option Key) Complaint
key_begun d None = Err (Unexpected (wanted_next d))
key_begun d (Some k) = once (has_setting d k) k

-- A pair begins with its key, and the text may end where each key has a value.
abbrev pub key_head : Draft → Lexeme → Result (Option Key) Complaint
key_head d (word bytes) = key_begun d (key_named bytes)
key_head d the_end = if is_complete d then Ok None else Err Ended
key_head d l = Err (Unexpected (wanted_next d))

-- a word in a value's place
abbrev pub valued : Option Setting → Result Setting Complaint
valued None = Err (Unexpected wants.Value)
valued (Some s) = Ok s

-- a spelling of a value of this key
abbrev pub value_test : Key → Lexeme → Result Setting Complaint
value_test k (word bytes) = valued (setting_named k bytes)
value_test k l = Err (refused wants.Value l)

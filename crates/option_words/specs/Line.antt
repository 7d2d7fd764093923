-- The command lines that are handed to clap, in clap's words, and what it reads by them. No public clause cites this module.
use Rattle.std.specs.Prelude.{List, [], ◌∷◌, ◌++◌, Option, Some, None, Bool, true, false, codes, map}
use Rattle.clap.specs.Words.{App, Row, Rule, Text, Kinds, matches_of, fault_of, new_app, new_rule}
use Rattle.clap.specs.Simple.{on_top}

-- an option with a value
abbrev pub option_rule : Text → Rule
option_rule id = record (new_rule id) { long = Some id }

-- a name that is needed
abbrev pub name_rule : Text → Rule
name_rule id = record (new_rule id) { required = true }

-- a name, or else an option
abbrev pub rule_for : Bool → Text → Rule
rule_for true = name_rule
rule_for false = option_rule

-- a line with no words for help or the version, over the words behind the command
abbrev pub bare_app : App
bare_app = on_top (λ s. record s { no_binary_name = true; disable_help_flag = true; disable_version_flag = true }) (new_app (codes "command"))

-- the line with these rules more
abbrev pub with_rules : App → List Rule → App
with_rules line rules = on_top (λ s. record s { rules = s.rules ++ rules }) line

-- the line of a command with these names and options
abbrev pub line_app : List Text → List Text → App
line_app names options = with_rules bare_app (map option_rule options ++ map name_rule names)

-- the rows, where no kind of fault comes
abbrev pub rows_unless : Kinds → List Row → Option (List Row)
rows_unless [] rows = Some rows
rows_unless (k ∷ ks) rows = None

-- what clap finds in the words, where it takes them
abbrev pub rows_read : App → List Text → Option (List Row)
rows_read line words = rows_unless (fault_of line words) (matches_of line words)

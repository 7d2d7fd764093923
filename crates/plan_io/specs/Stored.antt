-- What a stored text is.
use Rattle.std.specs.Prelude.{ℕ, List, string_bytes}
use Rattle.plan_io.specs.declared.text_list.NamedText.{NamedText}

-- the pair of its name and its bytes
abbrev pub stored : NamedText → List ℕ × List ℕ
stored text = (string_bytes text.name, text.bytes.items)

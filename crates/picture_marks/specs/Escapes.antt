-- Names as an SVG text has them.
use Rattle.std.specs.Prelude.{ℕ, List, [], ◌∷◌, codes, if◌then◌else◌, nat_eq}
use Rattle.std.specs.List.{flat_map}

-- a byte as it stands in a text: the five bytes that mean something there by their entities, which are <, >, &, ' and "
abbrev pub escaped_byte : ℕ → List ℕ
escaped_byte byte =
    if nat_eq byte 60 then codes "&lt;"
    else if nat_eq byte 62 then codes "&gt;"
    else if nat_eq byte 38 then codes "&amp;"
    else if nat_eq byte 39 then codes "&apos;"
    else if nat_eq byte 34 then codes "&quot;"
    else byte ∷ []

-- a name as it stands in a text
abbrev pub escaped : List ℕ → List ℕ
escaped name = flat_map escaped_byte name

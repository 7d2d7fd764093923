use Rattle.std.proofs.Common.{◌≡◌, ◌∙◌, ap, sym, refl, map, string_bytes, List, [], ◌∷◌, Some, None, Option, inl, inr, true}
use Rattle.clap.specs.Words.{Row, Kinds, app_of, fault_of, matches_of, is_simple, IsAmong}
use Rattle.clap.specs.declared.error.kind.ErrorKind.{ErrorKind}
use Rattle.clap.proofs.WalkLemmas.{both}
use Rattle.option_words.specs.Line.{rows_unless}
use Rattle.option_words.proofs.reading.read_line.Goals as goal

none-among : (ks : Kinds) (kind : ErrorKind) (rows : List Row) → IsAmong kind ks → ◌≡◌ {A = Option (List Row)} None (rows_unless ks rows)
none-among [] kind rows among = absurd among
none-among (k ∷ ks) kind rows among = refl

pub returns-in-Ok : goal.returns-in-Ok
returns-in-Ok c =
    let simple : is_simple (app_of c.args.line) ≡ true = (both _ _ c.requires).0 in
    ap (λ rows. Some rows) (c.in-Ok.ensures.matches simple).0
    ∙ sym (ap (λ ks. rows_unless ks (matches_of (app_of c.args.line) (map string_bytes c.args.words.now))) (c.in-Ok.ensures.kinds c.requires))

pub returns : goal.returns
returns c =
    elim (c.in-Err.ensures.kinds c.requires) [
      | inl memory ↦ absurd (c.in_default.not-OutOfMemory (c.kind.ensures ∙ memory))
      | inr among ↦ none-among (fault_of (app_of c.args.line) (map string_bytes c.args.words.now)) _ _ among
    ]

use Rattle.std.proofs.Common.{◌∙◌, ◌<◌, ap, sym, map, string_bytes, option_map, Some, None, length, arith}
use Rattle.std.proofs.lemmas.List.{length-map}
use Rattle.clap.specs.Words.{app_of, found_of, rows_of}
use Rattle.clap.specs.Lexer.{usize_max}
use Rattle.clap.specs.declared.parser.matches.ArgMatches.{ArgMatches}
use Rattle.option_words.proofs.Levels.{texts_read}
use Rattle.option_words.proofs.Tables.{line_is_simple, told_is}
use Rattle.option_words.proofs.reading.given_in.Goals as goal

pub read_line-requires : goal.read_line-requires
read_line-requires c = line_is_simple (map (λ id. id.now) c.args.names.now) (map (λ id. id.now) c.args.options.now) (app_of c.in_ok-line.line) c.in_ok-line.ensures.line

pub returns-in_ok-found_for-in-Some : goal.returns-in_ok-found_for-in-Some
returns-in_ok-found_for-in-Some c =
    let few : length (map (λ id. id.now) c.args.names.now) < usize_max = omega (arith, length-map c.args.names.now (λ id. id.now), c.line_of.ensures.few) in
    ap (λ found. Some found) c.in_ok-found_for-in-Some.ensures
    ∙ told_is (map (λ id. id.now) c.args.names.now) (map (λ id. id.now) c.args.options.now) c.requires few (app_of c.in_ok-line.line) (Some (found_of c.in-Some.matches)) (map string_bytes c.args.words.now) (texts_read c.args.words.now) c.in_ok-line.ensures.line
    (ap (option_map (λ (m : ArgMatches). rows_of (found_of m))) (sym c.in-Some.is) ∙ c.in_ok-matches.ensures)

pub returns-in-None : goal.returns-in-None
returns-in-None c =
    let few : length (map (λ id. id.now) c.args.names.now) < usize_max = omega (arith, length-map c.args.names.now (λ id. id.now), c.line_of.ensures.few) in
    told_is (map (λ id. id.now) c.args.names.now) (map (λ id. id.now) c.args.options.now) c.requires few (app_of c.in_ok-line.line) None (map string_bytes c.args.words.now) (texts_read c.args.words.now) c.in_ok-line.ensures.line
    (ap (option_map (λ (m : ArgMatches). rows_of (found_of m))) (sym c.in-None.is) ∙ c.in_ok-matches.ensures)

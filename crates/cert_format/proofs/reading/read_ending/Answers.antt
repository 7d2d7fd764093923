use Rattle.plan_tokens.specs.Lines.{lines_of}
use Rattle.cert_format.specs.Bodies.{fixed_of}
use Rattle.cert_format.specs.Grammar.{end_line}
use Rattle.cert_format.specs.Reading.{one, last_line, ending}
use Rattle.cert_format.specs.Answers.{drafted}
use Rattle.cert_format.proofs.Accepting.{ending_whole, ending_stop, reads_same}
use Rattle.cert_format.proofs.reading.read_ending.Goals as goal

pub returns-in-Some : goal.returns-in-Some
returns-in-Some c =
    let ls = lines_of c.args.text.now in
    reads_same c.read_end.result (last_line c.in-Some.plan (one (fixed_of end_line) ls)) (ending (drafted c.args.draft, ls)) (ending_whole (drafted c.args.draft) c.in-Some.plan ls c.in-Some.ensures) c.read_end.ensures

pub returns-in-None : goal.returns-in-None
returns-in-None c = ending_stop (drafted c.args.draft) c.args.text.now c.in-None.ensures

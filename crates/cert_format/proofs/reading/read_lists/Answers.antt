use Rattle.std.proofs.Common.{rules, ◌<◌, []}
use Rattle.std.proofs.lemmas.Result.{err_from_is_err_and}
use Rattle.plan_tokens.specs.Lines.{lines_of}
use Rattle.cert_format.specs.Reading.{lists}
use Rattle.cert_format.specs.Answers.{Stops}
use Rattle.cert_format.proofs.Accepting.{lists_stop, stops_same}
use Rattle.cert_format.proofs.reading.read_lists.Goals as goal

pub returns-in_err-list : goal.returns-in_err-list
returns-in_err-list c =
    let some : 0 < c.loop-left.left = search rules in
    let e = c.in_err-list.field-0.0 in
    let here = lists c.args.entries c.loop-left.left c.loop-left.lists (lines_of c.loop-left.rest.now) in
    let stops : Stops e here = lists_stop c.args.entries c.loop-left.left c.loop-left.lists (lines_of c.loop-left.rest.now) e some c.in_err-list.ensures in
    let all : Stops e (lists c.args.entries c.args.stated [] (lines_of c.args.text.now)) = stops_same e here (lists c.args.entries c.args.stated [] (lines_of c.args.text.now)) c.loop-left.invariant stops in
    let p = err_from_is_err_and c.from_residual.result c.from_residual.ensures.1 in
    rw (p.1, p.2) all

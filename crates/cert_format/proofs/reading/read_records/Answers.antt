use Rattle.std.proofs.Common.{rules, ◌<◌}
use Rattle.std.proofs.lemmas.Result.{err_from_is_err_and}
use Rattle.plan_tokens.specs.Lines.{lines_of}
use Rattle.cert_format.specs.Lists.{named_from}
use Rattle.cert_format.specs.Reading.{records}
use Rattle.cert_format.specs.Answers.{Stops}
use Rattle.cert_format.proofs.Accepting.{in_front, records_stop, stops_same}
use Rattle.cert_format.proofs.reading.read_records.Goals as goal

pub loop-left-init : goal.loop-left-init
unfolding named_from
loop-left-init c = search rules

pub returns-in_err-node-clause-reads : goal.returns-in_err-node-clause-reads
returns-in_err-node-clause-reads c =
    let g = c.args.ground.now in
    let some : 0 < c.loop-left.left = search rules in
    let grows : 0 < c.loop-left.trees = search rules in
    let stops : Stops c.in_err-node.field-0.0 (in_front c.loop-left.records.items (records g c.loop-left.named c.loop-left.left c.loop-left.trees (lines_of c.loop-left.rest.now))) =
    records_stop g c.loop-left.named c.loop-left.left c.loop-left.trees c.loop-left.records.items (lines_of c.loop-left.rest.now) c.in_err-node.field-0.0 some grows c.in_err-node.ensures in
    let all : Stops c.in_err-node.field-0.0 (records g 0 c.args.count 1 (lines_of c.args.text.now)) =
    stops_same c.in_err-node.field-0.0 (in_front c.loop-left.records.items (records g c.loop-left.named c.loop-left.left c.loop-left.trees (lines_of c.loop-left.rest.now))) (records g 0 c.args.count 1 (lines_of c.args.text.now)) c.loop-left.invariant.reads stops in
    let p = err_from_is_err_and c.from_residual.result c.from_residual.ensures.1 in
    rw (p.1, p.2) all

use Rattle.std.proofs.Common.{Some, arith}
use Rattle.std.proofs.lemmas.Result.{err_from_is_err_and}
use Rattle.snd_reader.proofs.Loops.{head_fails, closes, body_fails, goes_on, token_shorter}
use Rattle.snd_network.specs.Reading.{list_turn, list_item, list_of}
use Rattle.snd_network.proofs.Fresh.{fresh_name}
use Rattle.snd_network.proofs.lists.list_of.Goals as goal

pub returns-in_err-name : goal.returns-in_err-name
returns-in_err-name g c =
    let p = err_from_is_err_and c.from_residual.result c.from_residual.ensures.1 in
    record { gives = rw (p.1, p.2) (head_fails list_turn (list_item g.P.Part.reading) (list_of g.P.Part.reading c.args.cursor.now) c.items.table c.items.cursor _ c.items.invariant c.in_err-name.ensures.gives) }

pub returns-in_default : goal.returns-in_default
returns-in_default g c =
    record { gives = closes list_turn (list_item g.P.Part.reading) (list_of g.P.Part.reading c.args.cursor.now) c.items.table c.items.cursor c.next_name.new.cursor c.items.invariant (rw c.in_default.is at c.in_ok-name.ensures.gives) }

pub items-smaller : goal.items-smaller
items-smaller g c =
    let head = rw c.in-Some.is at c.in_ok-name.ensures.gives in
    omega (arith, token_shorter (list_turn c.items.table) (Some c.in-Some.name) c.items.cursor c.next_name.new.cursor head, c.in_ok-list_item.ensures.shorter)

pub items-preserved : goal.items-preserved
items-preserved g c =
    let head = rw c.in-Some.is at c.in_ok-name.ensures.gives in
    goes_on list_turn (list_item g.P.Part.reading) (list_of g.P.Part.reading c.args.cursor.now) c.items.table c.list_item.new.table c.items.cursor c.next_name.new.cursor c.list_item.new.cursor c.in-Some.name c.items.invariant head c.in_ok-list_item.ensures.gives (items-smaller g c)

pub returns-in_err-list_item : goal.returns-in_err-list_item
returns-in_err-list_item g c =
    let p = err_from_is_err_and c.from_residual-in_err-list_item.result c.from_residual-in_err-list_item.ensures.1 in
    record { gives = rw (p.1, p.2) (body_fails list_turn (list_item g.P.Part.reading) (list_of g.P.Part.reading c.args.cursor.now) c.items.table c.items.cursor c.next_name.new.cursor c.in-Some.name _ c.items.invariant (rw c.in-Some.is at c.in_ok-name.ensures.gives) c.in_err-list_item.ensures.gives) }

pub list_item-requires : goal.list_item-requires
list_item-requires g c = fresh_name c.items.table c.items.cursor c.next_name.new.cursor c.in-Some.name (rw c.in-Some.is at c.in_ok-name.ensures.gives)

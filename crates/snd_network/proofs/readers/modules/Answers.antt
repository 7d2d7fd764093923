use Rattle.std.proofs.Common.{sym, ap, ◌∙◌}
use Rattle.std.proofs.lemmas.Result.{err_from_is_err_and}
use Rattle.snd_reader.proofs.Loops.{head_fails, closes, body_fails, goes_on}
use Rattle.snd_reader.proofs.Turns.{turn_shorter}
use Rattle.std.specs.Prelude.{Ok}
use Rattle.snd_network.specs.Grammar.{ModuleForm}
use Rattle.snd_network.specs.Reading.{module_turn, module_item, modules}
use Rattle.snd_network.proofs.Parts.{live_module}
use Rattle.snd_network.proofs.readers.modules.Goals as goal

pub returns-in_err-capacity : goal.returns-in_err-capacity
returns-in_err-capacity c =
    let p = err_from_is_err_and c.from_residual.result c.from_residual.ensures.1 in
    record { gives = rw (p.1, p.2) (head_fails module_turn module_item (modules c.args.cursor.now) c.pairs.modules.items c.pairs.cursor _ c.pairs.invariant c.in_err-capacity.ensures.gives) }

pub returns-in_default : goal.returns-in_default
returns-in_default c =
    record { gives = closes module_turn module_item (modules c.args.cursor.now) c.pairs.modules.items c.pairs.cursor c.next_capacity.new.cursor c.pairs.invariant (rw c.in_default.is at c.in_ok-capacity.ensures.gives) ∙ ap (λ ms. Ok (ms, c.next_capacity.new.cursor)) (sym c.from_vec.ensures) }

pub pairs-smaller : goal.pairs-smaller
pairs-smaller c = turn_shorter module_turn module_item ModuleForm live_module c.pairs.modules.items c.module_item.new.modules.items
    c.in-Some.capacity c.pairs.cursor c.next_capacity.new.cursor c.module_item.new.cursor (rw c.in-Some.is at c.in_ok-capacity.ensures.gives) c.in_ok-module_item.ensures.gives

pub pairs-preserved : goal.pairs-preserved
pairs-preserved c = goes_on module_turn module_item (modules c.args.cursor.now)
    c.pairs.modules.items c.module_item.new.modules.items c.pairs.cursor c.next_capacity.new.cursor c.module_item.new.cursor c.in-Some.capacity c.pairs.invariant (rw c.in-Some.is at c.in_ok-capacity.ensures.gives) c.in_ok-module_item.ensures.gives (pairs-smaller c)

pub returns-in_err-module_item : goal.returns-in_err-module_item
returns-in_err-module_item c =
    let p = err_from_is_err_and c.from_residual-in_err-module_item.result c.from_residual-in_err-module_item.ensures.1 in
    record { gives = rw (p.1, p.2) (body_fails module_turn module_item (modules c.args.cursor.now) c.pairs.modules.items c.pairs.cursor c.next_capacity.new.cursor c.in-Some.capacity _ c.pairs.invariant (rw c.in-Some.is at c.in_ok-capacity.ensures.gives) c.in_err-module_item.ensures.gives) }

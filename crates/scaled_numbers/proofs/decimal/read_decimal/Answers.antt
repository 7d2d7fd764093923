use Rattle.scaled_numbers.proofs.Reading.{answers, misfit_answers}
use Rattle.scaled_numbers.proofs.Deciding.{decides, reads, faults, is-small}
use Rattle.scaled_numbers.proofs.decimal.read_decimal.Goals as goal

pub returns-in-Ok-clause-exact : goal.returns-in-Ok-clause-exact
returns-in-Ok-clause-exact c = let s = c.in-Ok.ensures.spells in decides c.args.text.now c.args.scale c.scaled.result (answers c.args.text.now c.args.scale s.0 s.1 c.scaled.result (c.scaled.ensures s.0 s.2))

pub returns-in-Ok-clause-value : goal.returns-in-Ok-clause-value
returns-in-Ok-clause-value c = reads c.args.text.now c.args.scale c.scaled.result (returns-in-Ok-clause-exact c)

pub returns-in-Ok-clause-fault : goal.returns-in-Ok-clause-fault
returns-in-Ok-clause-fault c = faults c.args.text.now c.args.scale c.scaled.result (returns-in-Ok-clause-exact c)

pub returns-in-Ok-clause-small : goal.returns-in-Ok-clause-small
returns-in-Ok-clause-small c = let s = c.in-Ok.ensures.spells in is-small c.args.text.now c.args.scale c.scaled.result (answers c.args.text.now c.args.scale s.0 s.1 c.scaled.result (c.scaled.ensures s.0 s.2))

pub returns-in-Err-clause-exact : goal.returns-in-Err-clause-exact
returns-in-Err-clause-exact c = decides c.args.text.now c.args.scale _ (misfit_answers c.args.text.now c.args.scale c.in-Err.at c.in-Err.ensures.misfit)

pub returns-in-Err-clause-value : goal.returns-in-Err-clause-value
returns-in-Err-clause-value c = reads c.args.text.now c.args.scale _ (returns-in-Err-clause-exact c)

pub returns-in-Err-clause-fault : goal.returns-in-Err-clause-fault
returns-in-Err-clause-fault c = faults c.args.text.now c.args.scale _ (returns-in-Err-clause-exact c)

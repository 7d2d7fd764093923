use Rattle.std.specs.Prelude.{Err}
use Rattle.std.proofs.lemmas.Result.{err_from_is_err_and}
use Rattle.snd_network.proofs.Once.{only_file, only_fault}
use Rattle.snd_network.proofs.Top.{spelt_network, unknown_told}
use Rattle.snd_network.proofs.Formed.{read_formed}
use Rattle.snd_network.proofs.reading.read_network.Goals as goal

pub returns-in_err-draft-clause-value_only : goal.returns-in_err-draft-clause-value_only
returns-in_err-draft-clause-value_only c =
    let p = err_from_is_err_and c.from_residual.result c.from_residual.ensures.1 in
    rw (p.1, p.2) (only_file c.args.text.now (Err _) tt c.in_err-draft.ensures.fault)

pub returns-in_err-draft-clause-fault_only : goal.returns-in_err-draft-clause-fault_only
returns-in_err-draft-clause-fault_only c =
    let p = err_from_is_err_and c.from_residual.result c.from_residual.ensures.1 in
    rw (p.1, p.2) (only_fault c.args.text.now (Err _) tt c.in_err-draft.ensures.fault)

pub returns : goal.returns
returns c =
    let text = c.args.text.now in
    let spelt = spelt_network text c.in_ok-draft.draft c.file_of.result c.in_ok-draft.ensures.value c.file_of.ensures.found in
    let told = unknown_told text c.in_ok-draft.draft c.file_of.result c.in_ok-draft.ensures.value c.file_of.ensures.unknown in
    record {
      value = spelt;
      value_only = only_file text c.file_of.result spelt told;
      formed = read_formed text c.file_of.result c.requires.length spelt;
      fault = told;
      fault_only = only_fault text c.file_of.result spelt told;
    }

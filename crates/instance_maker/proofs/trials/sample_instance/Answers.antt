use Rattle.std.proofs.Common.{subst}
use Rattle.snd_network.specs.declared.file.NetworkFile.{NetworkFile}
use Rattle.snd_model.specs.declared.file.ModelFile.{ModelFile}
use Rattle.model_check.specs.Refusals.{IsCheckFault}
use Rattle.instance_maker.specs.Samples.{sample_network}
use Rattle.instance_maker.specs.Trials.{trial_model, sample_parts}
use Rattle.instance_maker.proofs.trials.sample_instance.Goals as goal

-- a sample reads as an instance, so its only refusal is want of memory
pub of_check-requires : goal.of_check-requires
of_check-requires c =
    let network = sample_network c.args.number c.args.nodes c.args.demands in
    let parts = sample_parts c.args.number c.args.nodes c.args.demands in
    let told : IsCheckFault network trial_model c.in-Err.fault =
    subst (λ (net : NetworkFile). IsCheckFault net trial_model c.in-Err.fault) c.in_ok-network.ensures.network
    (subst (λ (model : ModelFile). IsCheckFault c.in_ok-network.network model c.in-Err.fault) c.trial_model.ensures c.in-Err.ensures.fault) in
    c.no_refusal_of_an_instance.ensures network trial_model parts c.in-Err.fault
    (c.samples_are_instances.ensures.reads c.args.number c.args.nodes c.args.demands c.requires.some c.requires.few c.requires.demands)
    (c.samples_are_instances.ensures.lawful c.args.number c.args.nodes c.args.demands c.requires.some c.requires.few c.requires.demands)
    told

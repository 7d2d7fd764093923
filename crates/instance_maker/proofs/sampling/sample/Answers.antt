use Rattle.std.proofs.Common.{subst, sym}
use Rattle.snd_network.specs.WellFormed.{IsWellFormed}
use Rattle.instance_maker.proofs.sampling.sample.Goals as goal

pub returns-clause-well_formed : goal.returns-clause-well_formed
returns-clause-well_formed c =
    subst IsWellFormed (sym c.in_ok-file.ensures)
    (c.samples_are_well_formed.ensures c.args.number c.args.nodes c.args.demands c.requires.some c.requires.few c.requires.demands)

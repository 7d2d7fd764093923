use Rattle.std.proofs.Common.{List, ℕ, subst, sym}
use Rattle.snd_network.specs.Spelling.{SpellsNetwork}
use Rattle.snd_network.proofs.writing.write_network.Goals as goal

pub returns-clause-spelt : goal.returns-clause-spelt
returns-clause-spelt c =
    subst (λ (bytes : List ℕ). SpellsNetwork bytes c.args.file.now) (sym c.in_ok-text.ensures) (c.written_is_spelt.ensures c.args.file.now c.requires)

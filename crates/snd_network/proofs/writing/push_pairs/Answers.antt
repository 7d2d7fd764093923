use Rattle.std.proofs.Common.{ℕ, [], ◌∷◌, get_or}
use Rattle.std.proofs.lemmas.List.{get_or_default}
use Rattle.snd_reader.specs.Writing.{grains}
use Rattle.snd_reader.proofs.WrittenLists.{tokens_more}
use Rattle.snd_network.proofs.writing.push_pairs.Goals as goal

pub loop-pair-preserved : goal.loop-pair-preserved
loop-pair-preserved c =
    let x = get_or c.args.modules.now c.loop-pair.pair-index (0, 0) in
    tokens_more (λ (m : ℕ × ℕ). grains m.0 ∷ grains m.1 ∷ []) c.args.modules.now c.loop-pair.pair-index x c.args.text.now.items c.loop-pair.text.items c.push_module.new.text.items c.loop-pair-test.true
    (get_or_default c.args.modules.now c.loop-pair.pair-index (0, 0) x c.loop-pair-test.true) c.loop-pair.invariant c.in_ok-push_module.ensures

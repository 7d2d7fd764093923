use Rattle.std.proofs.Common.{◌≡◌, ℕ, length, subst, arith}
use Rattle.limited_path.specs.Labels.{AreRounds, IsRound}
use Rattle.limited_path.proofs.RoundLaws.{round-end}
use Rattle.limited_path.proofs.rounds.Query.round.Goals as goal

pub returns-clause-rounds : goal.returns-clause-rounds
returns-clause-rounds c =
    let p = c.args.self.now.inst.now in
    let ws = c.args.self.now.weights.now in
    let s = c.args.self.now.source in
    let ls = c.loop-place.ways.labels.items in
    let la = c.loop-place.ways.latest.items in
    let n = c.args.steps in
    let start : c.len.result ≡ length c.args.ways.now.labels.items = omega (arith, c.len.ensures, c.args.ways.now.labels.ok.0) in
    let all : c.loop-place.place ≡ c.len.result = omega (arith, start, c.requires.start.from_within) in
    subst (λ (i : ℕ). AreRounds p ws s ls la i n) start (round-end p ws s ls la c.len.result n (subst (IsRound p ws s ls la c.len.result n) all c.loop-place.invariant.rounds))

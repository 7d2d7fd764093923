use Rattle.std.proofs.Common.{◌≡◌, ◌+◌, ◌≤◌, ℕ, List, length, sym, ap, subst, ◌∙◌, arith}
use Rattle.std.specs.Prelude.{Ok}
use Rattle.snd_reader.specs.declared.fault.TextFault.TheVariants.{Ended}
use Rattle.snd_reader.specs.Readers.{Placed, first_of}
use Rattle.snd_reader.specs.Faults.{Fails}
use Rattle.snd_reader.specs.declared.brackets.Depth.TheVariants.{Closed, Deep, Over}
use Rattle.snd_reader.specs.Brackets.{depth_at, skip}
use Rattle.snd_reader.proofs.SkipLoop.{some_open, closes, ends, goes_on, stays_within}
use Rattle.snd_reader.proofs.brackets.skip.Goals as goal

pub depth_behind-requires : goal.depth_behind-requires
depth_behind-requires c = λ opens.
    let some = some_open c.tokens.cursor (sym c.first.ensures.seen ∙ opens) in
    let within : c.tokens.depth + length c.tokens.cursor ≤ length c.args.cursor.now = c.tokens.invariant.within in
    omega (arith, some, within, c.count-left.ensures, c.count-left.type_inv)

pub returns-in-Closed : goal.returns-in-Closed
returns-in-Closed c =
    let depth : depth_at c.tokens.depth (first_of c.tokens.cursor).is ≡ Closed = sym (c.in-Closed.ensures ∙ ap (depth_at c.tokens.depth) c.first.ensures.seen) in
    record { gives = closes c.tokens.depth c.tokens.cursor (skip 0 c.args.cursor.now) c.tokens.invariant.left depth ∙ ap (λ (us : List Placed). Ok (tt, us)) (sym c.pass.ensures) }

pub returns-in-Over : goal.returns-in-Over
returns-in-Over c =
    let depth : depth_at c.tokens.depth (first_of c.tokens.cursor).is ≡ Over = sym (c.in-Over.ensures ∙ ap (depth_at c.tokens.depth) c.first.ensures.seen) in
    record { gives = subst (λ (at : ℕ). Fails (Ended at) (skip 0 c.args.cursor.now)) (sym c.at.ensures) (ends c.tokens.depth c.tokens.cursor (skip 0 c.args.cursor.now) c.tokens.invariant.left depth) }

pub tokens-preserved : goal.tokens-preserved
tokens-preserved c =
    let depth : depth_at c.tokens.depth (first_of c.tokens.cursor).is ≡ Deep c.in-Deep.behind = sym (c.in-Deep.ensures ∙ ap (depth_at c.tokens.depth) c.first.ensures.seen) in
    let within : c.tokens.depth + length c.tokens.cursor ≤ length c.args.cursor.now = c.tokens.invariant.within in
    record {
      left = ap (skip c.in-Deep.behind) c.pass-in-tokens.ensures ∙ goes_on c.tokens.depth c.in-Deep.behind c.tokens.cursor (skip 0 c.args.cursor.now) c.tokens.invariant.left depth;
      within = omega (arith, ap length c.pass-in-tokens.ensures, stays_within c.tokens.depth c.in-Deep.behind c.tokens.cursor depth, within);
    }

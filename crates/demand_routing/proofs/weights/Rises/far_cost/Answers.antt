use Rattle.std.proofs.Common.{Some, inl, inr, slice_index, arith}
use Rattle.demand_routing.proofs.AddedCosts.{far-none, far-span}
use Rattle.demand_routing.proofs.weights.Rises.far_cost.Goals as goal

pub returns-in_err-known-clause-value : goal.returns-in_err-known-clause-value
returns-in_err-known-clause-value c =
    rw c.from_residual.ensures (far-none c.args.self.now.table.now (slice_index c.args.self.now.loads.now) c.args.place c.args.self.now.load c.args.far (c.in_err-known.ensures.none c.args.self.now.load))

pub returns-in_err-rise-clause-value : goal.returns-in_err-rise-clause-value
returns-in_err-rise-clause-value c =
    rw c.from_residual-in_err-rise.ensures (far-none c.args.self.now.table.now (slice_index c.args.self.now.loads.now) c.args.place c.args.self.now.load c.args.far (rw c.in_ok-known.ensures.place at c.in_err-rise.ensures.value))

pub returns-then-span-eq0-clause-value : goal.returns-then-span-eq0-clause-value
returns-then-span-eq0-clause-value c =
    far-span c.args.self.now.table.now (slice_index c.args.self.now.loads.now) c.args.place c.args.self.now.load c.args.far c.span-span.result (Some c.in_ok-rise.rise) (rw c.in_ok-known.ensures.place at c.span-span.ensures.value)
    (inr (record { is_rise = rw c.in_ok-known.ensures.place at c.in_ok-rise.ensures.value; too_far = λ positive. absurd (omega (arith, positive, c.if-span-eq0.true)) }))

pub returns-in_default-clause-value : goal.returns-in_default-clause-value
returns-in_default-clause-value c =
    far-span c.args.self.now.table.now (slice_index c.args.self.now.loads.now) c.args.place c.args.self.now.load c.args.far c.span-span.result (Some c.in_ok-rise.rise) (rw c.in_ok-known.ensures.place at c.span-span.ensures.value)
    (inr (record { is_rise = rw c.in_ok-known.ensures.place at c.in_ok-rise.ensures.value; too_far = λ _. rw c.in_ok-known.ensures.place at c.in_default.ensures.value }))

pub returns-clause-value : goal.returns-clause-value
returns-clause-value c =
    far-span c.args.self.now.table.now (slice_index c.args.self.now.loads.now) c.args.place c.args.self.now.load c.args.far c.span-span.result _ (rw c.in_ok-known.ensures.place at c.span-span.ensures.value) (inl (record {
      rise = c.in_ok-rise.rise;
      beyond = c.in-Some.beyond;
      is_rise = rw c.in_ok-known.ensures.place at c.in_ok-rise.ensures.value;
      is_beyond = rw c.in_ok-known.ensures.place at c.in-Some.ensures.value;
      positive = omega (arith, c.if-span-eq0.false);
      is_weight = omega (arith, c.half_share.ensures.value);
    }))

use Rattle.std.proofs.Common.{ℕ, ◌≡◌, ◌<◌, ◌≤◌, Option, List, IfSome, length, subst, arith}
use Rattle.completions.specs.declared.completing.TheConstants.{LINK_COST_BOUND}
use Rattle.completions.specs.Links.{IsLinkCompletion, AreCompletedTo}
use Rattle.completions.proofs.CompletionLaws.{HasLoads, loads-read, overfull-found, completed-more}
use Rattle.completions.proofs.completing.complete_links.Goals as goal

pub returns-in_default-clause-none : goal.returns-in_default-clause-none
returns-in_default-clause-none c =
    let within : c.loop-place.place < length c.args.table.now.links = omega (arith, rw c.instance-inst.ensures.inst at c.links-place-end.ensures.value) in
    overfull-found c.args.table.now c.args.design.now c.loop-place.place c.of_link-held.result within
    (loads-read c.args.table.now c.args.design.now c.loop-place.place c.of_link-held.result c.loads_of-loads.result (rw c.instance-inst.ensures.inst at c.links-place-end.ensures.lawful) within
    (rw c.instance-inst.ensures.inst at c.loads_of-loads.ensures.value) (rw c.instance-inst.ensures.inst at c.of_link-held.ensures.there) (rw c.instance-inst.ensures.inst at c.of_link-held.ensures.back))
    (rw c.in_default.is at c.in_ok-least.ensures.none)

pub loop-place-preserved : goal.loop-place-preserved
loop-place-preserved c =
    let p = c.args.table.now in
    let e = c.loop-place.place in
    let held = c.of_link-held.result in
    let within : c.loop-place.place < length c.args.table.now.links = omega (arith, rw c.instance-inst.ensures.inst at c.links-place-end.ensures.value) in
    let loads : HasLoads p c.args.design.now e held =
    loads-read c.args.table.now c.args.design.now e held c.loads_of-loads.result (rw c.instance-inst.ensures.inst at c.links-place-end.ensures.lawful) within
    (rw c.instance-inst.ensures.inst at c.loads_of-loads.ensures.value) (rw c.instance-inst.ensures.inst at c.of_link-held.ensures.there) (rw c.instance-inst.ensures.inst at c.of_link-held.ensures.back) in
    let here : IsLinkCompletion p e held.there held.back c.in-Some.least c.in-Some.counts =
    subst (λ (found : Option (ℕ × List ℕ)). IfSome found (λ done. IsLinkCompletion p e held.there held.back done.0 done.1)) c.in-Some.is c.in_ok-least.ensures.some in
    let small : c.in-Some.least ≤ LINK_COST_BOUND =
    subst (λ (found : Option (ℕ × List ℕ)). IfSome found (λ done. done.0 ≤ LINK_COST_BOUND)) c.in-Some.is c.in_ok-least.ensures.within in
    record {
      done = rw c.in_ok-push.ensures.items (completed-more p c.args.design.now e c.loop-place.cost held c.in-Some.least c.loop-place.all.items c.in-Some.counts within loads c.loop-place.invariant.done here);
      within = omega (arith, c.loop-place.invariant.within, small);
    }

pub returns-clause-some : goal.returns-clause-some
returns-clause-some c =
    let p = c.args.table.now in
    let all : c.loop-place.place ≡ length p.links = omega (arith, c.loop-place-test.false, c.loop-place.auto.place-end, rw c.instance-inst.ensures.inst at c.links-place-end.ensures.value) in
    rw c.from_vec.ensures (subst (λ (n : ℕ). AreCompletedTo p c.args.design.now.paths n c.loop-place.cost c.loop-place.all.items) all c.loop-place.invariant.done)

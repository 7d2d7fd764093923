use Rattle.std.proofs.Common.{◌≡◌, ℕ, List, Option, Some, None, sym, ap, subst, ◌∙◌}
use Rattle.plan_base.specs.declared.parts.Parts.{Parts}
use Rattle.cut_values.specs.Numbers.{CutProblem}
use Rattle.column_pool.specs.Columns.{columns_at}
use Rattle.column_pool.specs.Briefs.{IsBriefFor}
use Rattle.master_step.specs.Columns.{HasColumns}
use Rattle.leaf_tasks.specs.Advances.{IsNext}
use Rattle.search_machine.specs.State.{State}
use Rattle.search_machine.specs.Publishing.{PublishStep}
use Rattle.search_machine.specs.Settling.{SettleStep}
use Rattle.search_machine.specs.Machine.{IsReachable}
use Rattle.search_machine.specs.Soundness.{IsSound}
use Rattle.search_machine.proofs.Leads.{LeadsTo-trans, LeadsTo-reachable}
use Rattle.search_machine.proofs.Runs.{IsReachable-sound}
use Rattle.pool_core.specs.Work.{KeepsNodes}
use Rattle.pool_core.proofs.ReadTables.{of_equal}
use Rattle.pool_core.proofs.Steps.{advance-complete, keeps-same}
use Rattle.pool_core.proofs.Advancing.{advancing-complete, keeps-trans, briefed-fits, briefed-columns, advanced-published, advanced-settled, published-leads, settled-leads_on}
use Rattle.pool_core.proofs.pool.Pool.advance.Goals as goal

pub seek_design-requires : goal.seek_design-requires
seek_design-requires c = advance-complete c.args.self.now c.args.self.now c.args.node c.args.version c.requires.advance (keeps-same c.args.self.now)

pub told-requires-clause-reachable : goal.told-requires-clause-reachable
told-requires-clause-reachable c = LeadsTo-reachable c.args.self.now c.seek_design.new.self c.requires.reachable c.seek_design.ensures.leads

pub told-requires-clause-complete : goal.told-requires-clause-complete
told-requires-clause-complete c = advancing-complete c.args.self.now c.seek_design.new.self c.args.node c.args.version c.requires.advance c.seek_design.ensures

pub returns-in_err-seek_design-clause-leads : goal.returns-in_err-seek_design-clause-leads
returns-in_err-seek_design-clause-leads c = c.seek_design.ensures.leads

pub returns-in_err-brief-clause-leads : goal.returns-in_err-brief-clause-leads
returns-in_err-brief-clause-leads c = LeadsTo-trans c.args.self.now c.seek_design.new.self c.told.new.self c.seek_design.ensures.leads c.told.ensures.keeps.leads

pub next_step-requires : goal.next_step-requires
next_step-requires c =
    let t = c.told.new.self in
    let sound : IsSound t = IsReachable-sound t (subst IsReachable c.self.view_is c.self.invariant.kept.pool.reachable) in
    let is_p : c.deref.result.now ≡ t.problem = c.deref.ensures ∙ ap (λ (s : State). s.problem) c.self.view_is in
    let is_cuts : c.deref-2.result.now.cuts ≡ t.cuts = ap (λ (x : CutProblem). x.cuts) c.deref-2.ensures ∙ ap (λ (s : State). s.cuts) c.self.view_is in
    record {
      table = ap (λ (x : CutProblem). x.problem) c.deref-2.ensures ∙ (c.self.invariant.kept.table_is ∙ sym c.deref.ensures);
      brief = of_equal (λ p cuts. IsBriefFor p cuts c.in_ok-brief.brief.prices c.in_ok-brief.brief.ranges c.in_ok-brief.brief.columns) _ _ _ _ (sym is_p) (sym is_cuts) (briefed-fits t c.args.node c.args.version c.in_ok-brief.brief sound c.in_ok-brief.ensures.briefed);
      columns = subst (λ (p : Parts). HasColumns p (columns_at c.in_ok-brief.brief.columns)) (sym is_p) (briefed-columns t c.args.node c.args.version c.in_ok-brief.brief sound c.in_ok-brief.ensures.briefed);
    }

pub returns-in_err-prices-clause-leads : goal.returns-in_err-prices-clause-leads
returns-in_err-prices-clause-leads c = LeadsTo-trans c.args.self.now c.seek_design.new.self c.told.new.self c.seek_design.ensures.leads c.told.ensures.keeps.leads

pub returns-in-Some : goal.returns-in-Some
returns-in-Some c =
    let s = c.args.self.now in
    let t = c.told.new.self in
    let sound : IsSound t = IsReachable-sound t (subst IsReachable c.self.view_is c.self.invariant.kept.pool.reachable) in
    let keeps : KeepsNodes s t = keeps-trans s c.seek_design.new.self t c.seek_design.ensures c.told.ensures.keeps in
    let next : IsNext t.problem t.cuts c.in_ok-brief.brief (Some c.in-Some.prices) =
    of_equal (λ p cuts. IsNext p cuts c.in_ok-brief.brief (Some c.in-Some.prices)) _ _ _ _ (c.deref.ensures ∙ ap (λ (x : State). x.problem) c.self.view_is) (ap (λ (x : CutProblem). x.cuts) c.deref-2.ensures ∙ ap (λ (x : State). x.cuts) c.self.view_is)
    (subst (λ (o : Option (List ℕ)). IsNext c.deref.result.now c.deref-2.result.now.cuts c.in_ok-brief.brief o) c.in-Some.is c.in_ok-prices.ensures) in
    let event : PublishStep t c.args.node c.args.version c.in-Some.prices c.publish-answer.result c.publish-answer.new.self =
    subst (λ (x : State). PublishStep x c.args.node c.args.version c.in-Some.prices c.publish-answer.result c.publish-answer.new.self) c.advise.ensures c.publish-answer.ensures.event in
    record {
      leads = published-leads s t c.publish-answer.new.self c.args.node c.args.version c.requires.reachable sound c.requires.advance keeps c.in_ok-brief.brief c.in_ok-brief.ensures.briefed c.in-Some.prices c.publish-answer.result event;
      closer = advanced-published s t c.publish-answer.new.self c.args.node c.args.version c.requires.reachable sound c.requires.advance keeps c.in_ok-brief.brief c.in_ok-brief.ensures.briefed c.in-Some.prices c.publish-answer.result next event;
    }

pub returns : goal.returns
returns c =
    let s = c.args.self.now in
    let t = c.told.new.self in
    let sound : IsSound t = IsReachable-sound t (subst IsReachable c.self.view_is c.self.invariant.kept.pool.reachable) in
    let keeps : KeepsNodes s t = keeps-trans s c.seek_design.new.self t c.seek_design.ensures c.told.ensures.keeps in
    let next : IsNext t.problem t.cuts c.in_ok-brief.brief None =
    of_equal (λ p cuts. IsNext p cuts c.in_ok-brief.brief None) _ _ _ _ (c.deref.ensures ∙ ap (λ (x : State). x.problem) c.self.view_is) (ap (λ (x : CutProblem). x.cuts) c.deref-2.ensures ∙ ap (λ (x : State). x.cuts) c.self.view_is)
    (subst (λ (o : Option (List ℕ)). IsNext c.deref.result.now c.deref-2.result.now.cuts c.in_ok-brief.brief o) c.in-None.is c.in_ok-prices.ensures) in
    let event : SettleStep t c.args.node c.args.version c.settle-answer.result c.settle-answer.new.self =
    subst (λ (x : State). SettleStep x c.args.node c.args.version c.settle-answer.result c.settle-answer.new.self) c.advise.ensures c.settle-answer.ensures.event in
    record {
      leads = settled-leads_on s t c.settle-answer.new.self c.args.node c.args.version c.requires.reachable sound c.requires.advance keeps c.in_ok-brief.brief c.in_ok-brief.ensures.briefed c.settle-answer.result event;
      closer = advanced-settled s t c.settle-answer.new.self c.args.node c.args.version c.requires.reachable sound c.requires.advance keeps c.in_ok-brief.brief c.in_ok-brief.ensures.briefed c.settle-answer.result next event;
    }

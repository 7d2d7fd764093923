use Rattle.std.proofs.Common.{◌≡◌, true, sym, ap, ◌∙◌, refl, Result, Ok, Err, None}
use Rattle.std.specs.Result.{is_ok, result_err}
use Rattle.plan_base.specs.declared.parts.Demand.{Demand}
use Rattle.plan_base.specs.Arcs.{demand_at}
use Rattle.plan_base.specs.DesignFaults.{path_fault}
use Rattle.plan_base.proofs.PathLaws.{IsSimplePath-path_fault, path_fault-IsSimplePath}
use Rattle.plan_base.proofs.walks.is_simple_path.Goals as goal

-- a result is good exactly where it has no fault
none-is_ok : {T E : Type 0} (r : Result T E) → is_ok r ≡ true → result_err r ≡ None
none-is_ok (Ok x) good = refl
none-is_ok (Err e) good = absurd (cc)

is_ok-none : {T E : Type 0} (r : Result T E) → result_err r ≡ None → is_ok r ≡ true
is_ok-none (Ok x) none = refl
is_ok-none (Err e) none = absurd (cc)

pub returns : goal.returns
returns c =
    let fault : result_err c.check_path.result ≡ path_fault c.args.inst.now c.args.demand (demand_at c.args.inst.now c.args.demand.0) c.args.path.now =
    c.check_path.ensures.fault ∙ ap (λ (k : Demand). path_fault c.args.inst.now c.args.demand k c.as_slice.result.now) c.demand.ensures.value
    ∙ ap (path_fault c.args.inst.now c.args.demand (demand_at c.args.inst.now c.args.demand.0)) c.as_slice.ensures.value in (
      λ told. IsSimplePath-path_fault _ c.args.demand _ _ (sym fault ∙ none-is_ok c.check_path.result (sym c.is_ok.ensures.value ∙ told)),
      λ simple. c.is_ok.ensures.value ∙ is_ok-none c.check_path.result (fault ∙ path_fault-IsSimplePath _ c.args.demand _ _ simple),
    )

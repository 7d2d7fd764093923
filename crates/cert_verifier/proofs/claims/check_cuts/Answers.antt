use Rattle.std.proofs.Common.{◌≡◌, ◌<◌, false, length, arith, rules}
use Rattle.cert_verifier.proofs.CutRules.{cuts_fault}
use Rattle.cert_verifier.proofs.LeafFindings.{not_so}
use Rattle.cert_verifier.proofs.claims.check_cuts.Goals as goal

pub returns-then-not-is_new_cut : goal.returns-then-not-is_new_cut
returns-then-not-is_new_cut c =
    let fails : c.is_new_cut.result ≡ false = search rules in
    let within : c.loop-number.number < length c.args.cuts.now = omega arith in
    cuts_fault c.args.inst.now c.args.cuts.now c.loop-number.number within c.loop-number.invariant (not_so c.is_new_cut.result _ c.is_new_cut.ensures fails)

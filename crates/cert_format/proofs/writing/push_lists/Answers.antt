use Rattle.std.proofs.Common.{◌≡◌, ◌++◌, ap, sym, ◌∙◌, arith, List, ℕ, Some, codes, length, ◌∷◌, []}
use Rattle.std.specs.Prelude.{slice_get}
use Rattle.std.proofs.lemmas.Option.{slice_get_within}
use Rattle.plan_tokens.specs.Lines.{whole, line_text}
use Rattle.plan_tokens.specs.Words.{row}
use Rattle.cert_format.specs.Grammar.{price_line, AreWithin}
use Rattle.cert_format.proofs.WrittenPieces.{lists_more, fields_listed}
use Rattle.cert_format.proofs.writing.push_lists.Goals as goal

pub loop-list-preserved : goal.loop-list-preserved
loop-list-preserved c =
    let lists : List (List ℕ) = c.args.lists.now in
    let n : ℕ = c.loop-list.number in
    let list : List ℕ = c.in-Some.list.now in
    let here : Some list ≡ slice_get lists n = c.in-Some.ensures in
    let old : List ℕ = c.args.out.now.items ++ line_text (whole (row (codes "PRICES") (length lists ∷ []))) in
    record {
      text = c.in_ok-push_list.ensures.text ∙ ap (λ bs. bs ++ line_text (whole (price_line list))) c.loop-list.invariant.text ∙ lists_more old lists n list here;
      fields = fields_listed (AreWithin 128) lists n list here c.loop-list.invariant.fields c.in_ok-push_list.ensures.fields;
      within = omega (arith, slice_get_within lists n list (sym here));
    }

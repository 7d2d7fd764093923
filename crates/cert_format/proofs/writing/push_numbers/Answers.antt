use Rattle.std.proofs.Common.{rules}
use Rattle.cert_format.proofs.FieldsSoFar.{fields_more}
use Rattle.cert_format.proofs.WrittenPieces.{numerals_more}
use Rattle.cert_format.proofs.writing.push_numbers.Goals as goal

pub loop-n-preserved : goal.loop-n-preserved
loop-n-preserved c = (search (rules, numerals_more), search (rules, fields_more))

use Rattle.cert_format.proofs.TextBound.{text_within}
use Rattle.cert_format.proofs.laws.text_within_limit.Goals as goal

pub returns : goal.returns
returns c = text_within

use Rattle.std.proofs.Common.{[]}
use Rattle.link_steps.specs.Tallies.{worth}
use Rattle.link_steps.proofs.NetValues.{worth-none, value-price, value-net}
use Rattle.link_steps.proofs.laws.value_without_rates.Goals as goal

pub returns : goal.returns
returns c = λ p e ranges price back_price value. (
  value-price p e ranges price back_price (worth price []) (worth back_price []) (worth-none price) (worth-none back_price) value,
  value-net p e ranges price back_price (worth price []) (worth back_price []) (worth-none price) (worth-none back_price) value,
)

use Rattle.std.proofs.Common.{◌∙◌, subst, Vec, Global}
use Rattle.std.proofs.lemmas.Result.{IfOk-weaker}
use Rattle.block_deques.specs.declared.deck.Deck.{Deck}
use Rattle.block_deques.specs.Wholes.{AreNewDecks}
use Rattle.block_deques.proofs.Makes.{new_decks}
use Rattle.block_deques.proofs.making.decks.Goals as goal

pub returns : goal.returns
returns c = IfOk-weaker {X = Vec Deck Global} _ _ _ (λ ds are. subst (λ n. AreNewDecks n ds.items) (c.new_rows.ensures.same ∙ c.in_ok-owners.ensures.0) (new_decks _ ds.items are.0 are.1)) c.put_together.ensures

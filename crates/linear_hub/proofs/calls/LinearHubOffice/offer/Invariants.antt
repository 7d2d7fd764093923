use Rattle.linear_hub.proofs.calls.LinearHubOffice.offer.Given as goal

abbrev pub ghosts-offer_as : goal.ghosts-offer_as
ghosts-offer_as g a = record { offer = a.offer }

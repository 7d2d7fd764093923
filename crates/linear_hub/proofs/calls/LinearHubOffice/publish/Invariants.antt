use Rattle.linear_hub.proofs.calls.LinearHubOffice.publish.Given as goal

abbrev pub ghosts-publish_as : goal.ghosts-publish_as
ghosts-publish_as g a = record { node = a.node; seen = a.seen }

use Rattle.linear_hub.proofs.calls.LinearHubOffice.better.Given as goal

abbrev pub ghosts-better_as : goal.ghosts-better_as
ghosts-better_as g a = record { design = a.design }

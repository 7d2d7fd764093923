use Rattle.linear_hub.proofs.running.search.Given as goal

abbrev pub ghosts-search_as-N-Search : goal.ghosts-search_as-N-Search
ghosts-search_as-N-Search g a = record { problem = a.pool.problem; cuts = a.pool.cuts; budget = a.pool.budget }

abbrev pub ghosts-search_as-N-Naming : goal.ghosts-search_as-N-Naming
ghosts-search_as-N-Naming g a = record { opening = a.pool }

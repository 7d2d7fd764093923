use Rattle.gate_pools.proofs.decks.working.tell_work.Given as goal

abbrev pub ghosts-work_with-N-Naming : goal.ghosts-work_with-N-Naming
ghosts-work_with-N-Naming g a = record { opening = a.pool }

abbrev pub ghosts-work_with-N-Search : goal.ghosts-work_with-N-Search
ghosts-work_with-N-Search g a = record { problem = a.pool.problem; cuts = a.pool.cuts; budget = a.pool.budget }

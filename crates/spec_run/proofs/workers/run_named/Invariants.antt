use Rattle.spec_run.proofs.workers.run_named.Given as goal

abbrev pub ghosts-run_sited : goal.ghosts-run_sited
ghosts-run_sited g a = record { words = a.cells }

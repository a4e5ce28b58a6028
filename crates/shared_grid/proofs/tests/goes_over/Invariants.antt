use Rattle.shared_grid.proofs.tests.goes_over.Given as goal

abbrev pub ghosts-run_named : goal.ghosts-run_named
ghosts-run_named g a = record { plan = a.plan.now; window = 1; story = a.story.now }

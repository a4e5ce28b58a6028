use Rattle.shared_grid.proofs.tests.found_over.Given as goal

abbrev pub ghosts-look_named : goal.ghosts-look_named
ghosts-look_named a = record { plan = a.plan.now; window = 1; story = a.story.now }

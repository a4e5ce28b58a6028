use Rattle.shared_grid.proofs.tests.run_named.Given as goal

abbrev pub ghosts-run : goal.ghosts-run
ghosts-run g a = record { words = a.cells }

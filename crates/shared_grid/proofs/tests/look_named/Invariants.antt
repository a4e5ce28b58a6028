use Rattle.shared_grid.proofs.tests.look_named.Given as goal

abbrev pub ghosts-look : goal.ghosts-look
ghosts-look g a = record { words = a.cells }

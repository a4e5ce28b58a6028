use Rattle.spec_run.proofs.call_tests.named.Given as goal

abbrev pub ghosts-sited : goal.ghosts-sited
ghosts-sited g a = record { words = a.cells }

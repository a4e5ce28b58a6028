use Rattle.event_retrieve.specs.Sequential.{sequential}
use Rattle.spec_run.proofs.call_tests.called.Given as goal

abbrev pub ghosts-named : goal.ghosts-named
ghosts-named g a = record { plan = a.plan.now; window = 64; story = sequential a.plan.now }

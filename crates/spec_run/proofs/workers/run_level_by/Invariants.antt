use Rattle.event_retrieve.specs.Sequential.{sequential}
use Rattle.spec_run.proofs.workers.run_level_by.Given as goal

abbrev pub ghosts-run_named : goal.ghosts-run_named
ghosts-run_named g a = record { plan = a.plan.now; window = a.window; story = sequential a.plan.now }

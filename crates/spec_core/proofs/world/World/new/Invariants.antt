use Rattle.std.proofs.Common.{◌≡◌, replicate}
use Rattle.spec_core.specs.declared.worker.Worker.TheVariants.{Idle}
use Rattle.spec_core.proofs.world.World.new.Given as goal

abbrev pub invariant-loop : goal.invariant-loop
invariant-loop l = l.idle.items ≡ replicate l.counter Idle

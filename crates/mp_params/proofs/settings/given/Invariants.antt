use Rattle.std.proofs.Common.{◌≡◌, drop}
use Rattle.mp_params.specs.Lines.{given}
use Rattle.mp_params.proofs.settings.given.Given as goal

abbrev pub invariant-loop-setting : goal.invariant-loop-setting
invariant-loop-setting l = given (drop l.setting-index l.settings) l.name ≡ given l.settings l.name

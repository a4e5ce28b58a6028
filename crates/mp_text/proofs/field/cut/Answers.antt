use Rattle.std.specs.Prelude.{◌==◌}
use Rattle.mp_text.proofs.Places.{none_passes}
use Rattle.mp_text.proofs.field.cut.Goals as goal

pub returns-in_default-clause-none : goal.returns-in_default-clause-none
returns-in_default-clause-none c = none_passes (λ b. b == c.args.at) c.args.text.now c.in_default.ensures

use Rattle.std.proofs.Common.{◌≡◌, Ok, subst}
use Rattle.mp_params.specs.Params.{ParamsValue}
use Rattle.mp_params.specs.Printing.{print_text}
use Rattle.mp_params.specs.Reading.{params_of}
use Rattle.mp_params.proofs.Law.{reads_back}
use Rattle.mp_params.proofs.printing.print_params.Goals as goal

pub returns-clause-read_back : goal.returns-clause-read_back
returns-clause-read_back c = subst (λ (p : ParamsValue). params_of (print_text p) ≡ Ok p) c.params.view_is (reads_back _ c.params.invariant)

-- What judged inputs come to.
use Rattle.std.proofs.Common.{◌≡◌, sym, ◌∙◌, ap, ℕ, List, None, Result, Ok}
use Rattle.mps_inputs.specs.Answers.{IsRefusal}
use Rattle.mp_text.specs.Chain.{◌>>=◌}
use Rattle.mps_inputs.specs.Judged.{IsJudged}
use Rattle.mps_inputs.specs.Setup.{positions_of, setup_for}
use Rattle.mps_inputs.specs.declared.fault.Fault.{Fault}
use Rattle.mps_inputs.specs.declared.inputs.Inputs.{Inputs}
use Rattle.mps_inputs.specs.declared.judging.Judged.{Judged}
use Rattle.mps_inputs.proofs.Stages.{refused_next}
use Rattle.mps_run.specs.Outcome.{run_done, run_of}
use Rattle.mps_top.specs.Outcome.{check_done, check_of}
use Rattle.mps_top.specs.Texts.{check_text}

pub run_refused : (inputs : Inputs) (fault : Fault) → IsRefusal (positions_of (setup_for inputs)) fault → IsRefusal (run_of inputs) fault
run_refused inputs fault is = refused_next (positions_of (setup_for inputs)) (run_done inputs) fault is

pub check_refused : (inputs : Inputs) (fault : Fault) → IsRefusal (positions_of (setup_for inputs)) fault → IsRefusal (check_of inputs) fault
check_refused inputs fault is = refused_next (positions_of (setup_for inputs)) (check_done inputs) fault is

module _ (inputs : Inputs) (judged : Judged) (is : IsJudged inputs judged) where
  enough : positions_of (setup_for inputs) ≡ Ok judged.positions.items
  enough = ap positions_of (sym is.setup) ∙ is.positions

  pub check_is : (text : List ℕ) → text ≡ check_text inputs judged.positions.items → check_of inputs ≡ Ok (record { output = None; out = text })
  check_is text told = ap (λ (r : Result (List ℕ) Fault). r >>= check_done inputs) enough ∙ ap (λ (t : List ℕ). Ok (record { output = None; out = t })) (sym told)

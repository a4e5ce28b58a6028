-- What judged inputs come to.
use Rattle.std.proofs.Common.{◌≡◌, sym, ◌∙◌, ap, ℕ, List, Some, Result, Ok}
use Rattle.realisation_out.specs.Report.{report_text}
use Rattle.mp_text.specs.Chain.{◌>>=◌}
use Rattle.mps_inputs.specs.Judged.{IsJudged}
use Rattle.mps_inputs.specs.Setup.{positions_of, setup_for}
use Rattle.mps_inputs.specs.declared.fault.Fault.{Fault}
use Rattle.mps_inputs.specs.declared.inputs.Inputs.{Inputs}
use Rattle.mps_inputs.specs.declared.judging.Judged.{Judged}
use Rattle.mps_run.specs.Outcome.{run_done, run_of}
use Rattle.mps_run.specs.Texts.{report_of, run_file}

-- Inputs that were judged.

module _ (inputs : Inputs) (judged : Judged) (is : IsJudged inputs judged) where
  enough : positions_of (setup_for inputs) ≡ Ok judged.positions.items
  enough = ap positions_of (sym is.setup) ∙ is.positions

  run_is : (name : List ℕ) → name ≡ judged.parameters.output → Ok (record { output = Some (record { name = name; text = run_file judged.parameters judged.setup }); out = report_text (report_of inputs judged.positions.items) }) ≡ run_of inputs
  run_is name named =
      (λ i. Ok (record { output = Some (record { name = (named ∙ (λ j. (is.parameters j).output)) i; text = run_file (is.parameters i) (is.setup i) }); out = report_text (report_of inputs judged.positions.items) }))
      ∙ sym (ap (λ (r : Result (List ℕ) Fault). r >>= run_done inputs) enough)

  -- the same of what is seen of them
  pub seen_is : (view : Judged) → view ≡ judged → (name : List ℕ) → name ≡ view.parameters.output → Ok (record { output = Some (record { name = name; text = run_file view.parameters view.setup }); out = report_text (report_of inputs judged.positions.items) }) ≡ run_of inputs
  seen_is view same name named =
      ap (λ (text : List ℕ). Ok (record { output = Some (record { name = name; text = text }); out = report_text (report_of inputs judged.positions.items) }))
      (ap (λ (j : Judged). run_file j.parameters j.setup) same)
      ∙ run_is name (named ∙ ap (λ (j : Judged). j.parameters.output) same)

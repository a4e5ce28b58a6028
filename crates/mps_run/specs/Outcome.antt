-- What `run` comes to, once its inputs are accepted.
use Rattle.std.specs.Prelude.{ℕ, List, Some, Result, Ok}
use Rattle.realisation_out.specs.Report.{report_text}
use Rattle.mp_text.specs.Chain.{◌>>=◌}
use Rattle.mps_inputs.specs.Answers.{Ends, Seen}
use Rattle.mps_inputs.specs.Done.{Done}
use Rattle.mps_inputs.specs.Judged.{IsJudged}
use Rattle.mps_inputs.specs.Setup.{positions_of, setup_for}
use Rattle.mps_inputs.specs.declared.fault.Fault.{Fault}
use Rattle.mps_inputs.specs.declared.inputs.Inputs.{Inputs}
use Rattle.mps_inputs.specs.declared.judging.Judged.{Judged}
use Rattle.mps_run.specs.Texts.{report_of, run_file}

-- all realisations in the output file, and the report
abbrev pub run_done : Inputs → List ℕ → Result Done Fault
run_done inputs positions =
    let p = inputs.parameters in
    Ok (record {
      output = Some (record { name = p.output; text = run_file p (setup_for inputs) });
      out = report_text (report_of inputs positions);
    })

-- the same, where each level has enough positions
abbrev pub run_of : Inputs → Result Done Fault
run_of inputs = do
  positions ← positions_of (setup_for inputs)
  run_done inputs positions

-- what work on judged inputs ends in: what a run of the inputs comes to
abbrev pub EndsRun : Judged → Seen → Seen → Result (Unit {0}) Fault → Type 0
EndsRun judged before now answer = (inputs : Inputs) → IsJudged inputs judged → Ends (run_of inputs) before now answer

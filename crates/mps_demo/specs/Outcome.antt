-- What `demo` comes to: the report of a run of what the seed gives. No file is written.
use Rattle.std.specs.Prelude.{ℕ, List, None, Result, Ok}
use Rattle.mp_text.specs.Chain.{◌>>=◌}
use Rattle.realisation_out.specs.Report.{report_text}
use Rattle.mps_inputs.specs.Answers.{Ends, Seen}
use Rattle.mps_inputs.specs.Done.{Done}
use Rattle.mps_inputs.specs.Judged.{IsJudged}
use Rattle.mps_inputs.specs.Setup.{positions_of, setup_for}
use Rattle.mps_inputs.specs.declared.fault.Fault.{Fault}
use Rattle.mps_inputs.specs.declared.inputs.Inputs.{Inputs}
use Rattle.mps_inputs.specs.declared.judging.Judged.{Judged}
use Rattle.mps_run.specs.Texts.{report_of}
use Rattle.mps_demo.specs.Inputs.{demo_inputs}

-- the report of a run of these inputs, and no file
abbrev pub reported : Inputs → List ℕ → Result Done Fault
reported inputs positions = Ok (record { output = None; out = report_text (report_of inputs positions) })

-- the same, where each level has enough positions
abbrev pub summary_of : Inputs → Result Done Fault
summary_of inputs = do
  positions ← positions_of (setup_for inputs)
  reported inputs positions

-- by the seed alone: no file is read
abbrev pub demo_outcome : ℕ → Result Done Fault
demo_outcome seed = summary_of (demo_inputs seed)

-- what reporting on judged inputs ends in
abbrev pub EndsReported : Judged → Seen → Seen → Result (Unit {0}) Fault → Type 0
EndsReported judged before now answer = (inputs : Inputs) → IsJudged inputs judged → Ends (reported inputs judged.positions.items) before now answer

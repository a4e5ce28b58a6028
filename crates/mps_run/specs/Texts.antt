-- What `run` writes: the text of the output file, and what the report tells.
use Rattle.std.specs.Prelude.{◌≡◌, ℕ, List, ◌++◌, flat_map, map}
use Rattle.std.specs.List.{range_with_len}
use Rattle.mp_base.specs.Cells.{category_counts}
use Rattle.mp_base.specs.Grid.{Field}
use Rattle.mp_params.specs.Params.{ParamsValue}
use Rattle.realisation_out.specs.Text.{head_text, rows_text}
use Rattle.realisation_out.specs.declared.report.Report.{Report}
use Rattle.seq_engine.specs.Realisation.{realised}
use Rattle.seq_engine.specs.declared.setup.Setup.{Setup}
use Rattle.mps_inputs.specs.Inputs.{codes_in}
use Rattle.mps_inputs.specs.Setup.{setup_for}
use Rattle.mps_inputs.specs.Judged.{IsJudged}
use Rattle.mps_inputs.specs.declared.inputs.Inputs.{Inputs}
use Rattle.mps_inputs.specs.declared.judging.Judged.{Judged}

-- the first realisations, as many as this
abbrev pub realisations_to : Setup → ℕ → List Field
realisations_to setup count = map (realised setup) (range_with_len 0 count)

-- a file of these realisations: its opening, and the cells of one after another
unfoldable pub file_text : ParamsValue → List Field → List ℕ
file_text p realisations = head_text p.grid p.realisations p.seed ++ flat_map (λ grid. rows_text p.categories grid.cells) realisations

-- the file of a run: all realisations that the parameters ask for
abbrev pub run_file : ParamsValue → Setup → List ℕ
run_file p setup = file_text p (realisations_to setup p.realisations)

-- how many cells of a realisation have each category
abbrev pub realisation_counts : Setup → ℕ → List ℕ
realisation_counts setup realisation = category_counts setup.cats (realised setup realisation).cells

-- the same of the first realisations
abbrev pub counts_of : Setup → ℕ → List (List ℕ)
counts_of setup count = map (realisation_counts setup) (range_with_len 0 count)

-- what a run reports, by its positions
abbrev pub report_of : Inputs → List ℕ → Report
report_of inputs positions =
    let p = inputs.parameters in
    record {
      codes = codes_in p;
      shape = p.grid;
      rows = inputs.points.rows;
      used = inputs.points.used;
      skipped = inputs.points.skipped;
      target = (setup_for inputs).target;
      positions = positions;
      counts = counts_of (setup_for inputs) p.realisations;
    }

-- the report of judged inputs, by the counts of all their realisations
abbrev pub IsReport : Judged → List (List ℕ) → Report → Type 0
IsReport judged counts report =
    (inputs : Inputs) → IsJudged inputs judged → counts ≡ counts_of judged.setup judged.parameters.realisations → report ≡ report_of inputs judged.positions.items

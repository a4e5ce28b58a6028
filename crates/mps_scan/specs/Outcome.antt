-- What `scan` comes to.
use Rattle.std.specs.Prelude.{ℕ, List, None, Result, Ok}
use Rattle.mp_outside.specs.Contents.{Held}
use Rattle.mp_params.specs.Params.{ParamsValue}
use Rattle.ti_scan.specs.declared.event.Datum.{Datum}
use Rattle.mp_text.specs.Chain.{◌>>=◌}
use Rattle.mps_inputs.specs.Done.{Done}
use Rattle.mps_inputs.specs.Inputs.{parameters_in, read_as, tables_of}
use Rattle.mps_inputs.specs.Setup.{positions_of, setup_for}
use Rattle.mps_inputs.specs.declared.fault.Fault.{Fault}
use Rattle.mps_inputs.specs.declared.inputs.Inputs.{Inputs}
use Rattle.mps_scan.specs.Scanning.{event_asked, level_text}
use Rattle.mps_scan.specs.declared.words.ScanWords.{ScanWords}

abbrev pub scan_done : Inputs → ℕ → List Datum → Result Done Fault
scan_done inputs level event = Ok (record { output = None; out = level_text inputs.parameters.store (setup_for inputs) level event })

-- for an event at a level, once its inputs are accepted
abbrev pub scan_of : ℕ → List Datum → Inputs → Result Done Fault
scan_of level event inputs = do
  positions ← positions_of (setup_for inputs)
  scan_done inputs level event

-- under accepted parameters, for an event that fits them
abbrev pub scan_tables : ℕ → ParamsValue → List Datum → Held → Result Done Fault
scan_tables level p event held = tables_of p held >>= scan_of level event

-- the same for its words, which are refused before any table is read
abbrev pub scan_under : ScanWords → ParamsValue → Held → Result Done Fault
scan_under words p held = do
  event ← event_asked p words
  scan_tables words.level p event held

-- by what the files hold
abbrev pub scan_outcome : List ℕ → ScanWords → Held → Result Done Fault
scan_outcome name words held = do
  p ← read_as parameters_in name held
  scan_under words p held

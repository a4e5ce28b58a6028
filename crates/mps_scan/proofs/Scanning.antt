-- The words of `scan` under parameters.
use Rattle.std.proofs.Common.{◌≡◌, inl, inr, refl, sym, ◌∙◌, ap, subst, ℕ, List, length, Some, Result, Ok, Err}
use Rattle.mp_outside.specs.Contents.{Held}
use Rattle.mp_outside.specs.Seen.{FilesSeen, SinkSeen}
use Rattle.mp_params.specs.Params.{IsParams, ParamsValue}
use Rattle.mp_params.specs.Printing.{print_text}
use Rattle.mp_params.specs.declared.fault.ParamsFault.{ParamsFault}
use Rattle.mp_params.proofs.Law.{reads_back}
use Rattle.mp_text.specs.Chain.{◌>>=◌}
use Rattle.ti_scan.specs.declared.event.Datum.{Datum}
use Rattle.mps_inputs.specs.Answers.{IsUsage, Serves, seen}
use Rattle.mps_inputs.specs.Inputs.{judged, parameters_in, read_as, tables_of}
use Rattle.mps_inputs.specs.Setup.{positions_of, setup_for, setup_of}
use Rattle.mps_inputs.specs.declared.fault.Fault.{Fault}
use Rattle.mps_inputs.specs.declared.fault.Fault.TheVariants.{Usage, Parameters}
use Rattle.mps_inputs.specs.declared.inputs.Inputs.{Inputs}
use Rattle.mps_inputs.proofs.NoUsage.{NoUsage, neither_usage, ok_no_usage, positions_no_usage, tables_no_usage}
use Rattle.mps_scan.specs.Outcome.{scan_done, scan_of, scan_tables, scan_under}
use Rattle.mps_scan.specs.Scanning.{IsUnfit, event_asked, positions_in}
use Rattle.mps_scan.specs.declared.words.ScanWords.{ScanWords}

pub template_same : (inputs : Inputs) → length (setup_for inputs).template.vectors ≡ positions_in inputs.parameters
unfolding setup_of
template_same inputs = refl

-- Only words that don't fit are refused as words.

scan_no_usage : (level : ℕ) (event : List Datum) (inputs : Inputs) → NoUsage (scan_of level event inputs)
scan_no_usage level event inputs = neither_usage (positions_of (setup_for inputs)) (λ positions. scan_done inputs level event) (positions_no_usage (setup_for inputs)) (λ positions. ok_no_usage _)

pub asked_refused : (words : ScanWords) (p : ParamsValue) (held : Held) → scan_under words p held ≡ Err Usage → event_asked p words ≡ Err Usage
asked_refused words p held is = by_event (event_asked p words) is
  where
    by_event : (asked : Result (List Datum) Fault) → (asked >>= λ event. scan_tables words.level p event held) ≡ Err Usage → asked ≡ Err Usage
    by_event (Ok event) is = absurd (neither_usage (tables_of p held) (scan_of words.level event) (tables_no_usage p held) (scan_no_usage words.level event) is)
    by_event (Err fault) is = cc is

-- the parameters, printed, are accepted as they are
read_back : (p : ParamsValue) → IsParams p → parameters_in (print_text p) ≡ Ok p
unfolding parameters_in
read_back p is = ap (λ (r : Result ParamsValue ParamsFault). judged Parameters r) (reads_back p is)

-- so words that don't fit them are refused over some files
pub refused_somewhere : (name : List ℕ) (words : ScanWords) (p : ParamsValue) (before : FilesSeen) → IsParams p → IsUsage (scan_under words p) before → (held : Held) × ((read_as parameters_in name held >>= λ p. scan_under words p held) ≡ Err Usage)
refused_somewhere name words p before is usage =
    let held : Held = λ other. Some (print_text p) in
    let asked = asked_refused words p usage.0.0 usage.0.1 in
    (held, ap (λ (r : Result ParamsValue Fault). r >>= λ p. scan_under words p held) (read_back p is) ∙ ap (λ (r : Result (List Datum) Fault). r >>= λ event. scan_tables words.level p event held) asked)

-- Words that don't fit, before any table is read.
pub words_refused : (words : ScanWords) (p : ParamsValue) (files : FilesSeen) (out : SinkSeen) (fault : Fault) → IsUnfit p words fault → Serves (scan_under words p) (seen files out) (seen files out) (Err fault)
words_refused words p files out fault (inl memory) =
    subst (λ f. Serves (scan_under words p) (seen files out) (seen files out) (Err f)) (sym memory)
    (record { cause = tt; files = λ told. inl (λ name. refl); out = λ told. inl refl })
words_refused words p files out fault (inr usage) =
    subst (λ f. Serves (scan_under words p) (seen files out) (seen files out) (Err f)) (sym usage.0)
    (record { cause = ((files.held, is files.held), λ told. is files.held); files = λ told name. refl; out = λ told. refl })
  where
    is : (held : Held) → scan_under words p held ≡ Err Usage
    is held = ap (λ (r : Result (List Datum) Fault). r >>= λ event. scan_tables words.level p event held) usage.1

-- What a command comes to where no call of the outside fails: its first refusal, or what it writes.
use Rattle.std.specs.Prelude.{ℕ, List, None, Result, Ok, ok_or}
use Rattle.mp_outside.specs.Contents.{Held}
use Rattle.mp_text.specs.Chain.{◌>>=◌}
use Rattle.mps_demo.specs.Outcome.{demo_outcome}
use Rattle.mps_inputs.specs.Done.{Done}
use Rattle.mps_inputs.specs.Inputs.{inputs_of}
use Rattle.mps_inputs.specs.Setup.{positions_of, setup_for}
use Rattle.mps_inputs.specs.declared.fault.Fault.{Fault}
use Rattle.mps_inputs.specs.declared.fault.Fault.TheVariants.{Usage}
use Rattle.mps_inputs.specs.declared.inputs.Inputs.{Inputs}
use Rattle.mps_replay.specs.Outcome.{replay_outcome}
use Rattle.mps_run.specs.Outcome.{run_of}
use Rattle.mps_scan.specs.Outcome.{scan_outcome}
use Rattle.mps_top.specs.Texts.{check_text}
use Rattle.mps_words.specs.Words.{command_of}
use Rattle.mps_words.specs.declared.words.Command.{Command}
use Rattle.mps_words.specs.declared.words.Command.TheVariants.{Run, Check, Scan, Replay, Demo}

abbrev pub check_done : Inputs → List ℕ → Result Done Fault
check_done inputs positions = Ok (record { output = None; out = check_text inputs positions })

-- what `check` comes to, once its inputs are accepted
abbrev pub check_of : Inputs → Result Done Fault
check_of inputs = do
  positions ← positions_of (setup_for inputs)
  check_done inputs positions

-- what `run` comes to, by what the files hold
abbrev pub run_outcome : List ℕ → Held → Result Done Fault
run_outcome name held = inputs_of name held >>= run_of

-- the outcome of a command, by what the files hold; that of `run` with any number of workers is one
abbrev pub outcome_for : Command → Held → Result Done Fault
outcome_for (Run name workers) held = run_outcome name held
outcome_for (Check name) held = inputs_of name held >>= check_of
outcome_for (Scan name words) held = scan_outcome name words held
outcome_for (Replay name schedule) held = replay_outcome name schedule held
outcome_for (Demo seed by_list) held = demo_outcome seed

-- the outcome of any words
abbrev pub outcome_of : List (List ℕ) → Held → Result Done Fault
outcome_of words held = ok_or (command_of words) Usage >>= λ command. outcome_for command held

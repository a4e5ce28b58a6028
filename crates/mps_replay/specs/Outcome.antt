-- What `replay` comes to.
use Rattle.std.specs.Prelude.{ℕ, List, None, Result, Ok}
use Rattle.mp_outside.specs.Contents.{Held}
use Rattle.mp_params.specs.Params.{ParamsValue}
use Rattle.mp_text.specs.Chain.{◌>>=◌}
use Rattle.seq_engine.specs.Realisation.{realised}
use Rattle.seq_engine.specs.declared.setup.Setup.{Setup}
use Rattle.spec_steps.specs.Schedule.{schedule_of}
use Rattle.spec_steps.specs.declared.schedule.Schedule.{Schedule}
use Rattle.spec_steps.specs.declared.schedule.ScheduleError.{ScheduleError}
use Rattle.spec_steps.specs.declared.schedule.ScheduleError.TheVariants as error
use Rattle.trace_out.specs.Trace.{trace_text}
use Rattle.mps_inputs.specs.Done.{Done}
use Rattle.mps_inputs.specs.Inputs.{inputs_of, judged, read_as}
use Rattle.mps_inputs.specs.Setup.{positions_of, setup_for}
use Rattle.mps_inputs.specs.declared.fault.Fault.{Fault}
use Rattle.mps_inputs.specs.declared.fault.Fault.TheVariants.{OutOfMemory, Schedule as RefusedSchedule}
use Rattle.mps_inputs.specs.declared.fault.ScheduleFault.TheVariants as fault
use Rattle.mps_inputs.specs.declared.inputs.Inputs.{Inputs}
use Rattle.mps_replay.specs.Trace.{trace_in}

-- why a schedule isn't read, as a fault
abbrev pub schedule_fault : ScheduleError → Fault
schedule_fault (error.BadLine line) = RefusedSchedule (fault.BadLine line)
schedule_fault error.TooLong = RefusedSchedule fault.TooLong
schedule_fault error.NoMemory = OutOfMemory

-- the schedule that a file gives, by how many realisations and levels there are
abbrev pub schedule_in : ParamsValue → List ℕ → Result Schedule Fault
schedule_in p file = judged schedule_fault (schedule_of p.realisations p.levels file)

-- the trace of a schedule, and the realisation at its end
abbrev pub replay_text : ParamsValue → Setup → Schedule → List ℕ
replay_text p setup s =
    let trace = trace_in setup s p.window in
    trace_text p.categories s trace.answers trace.log (realised setup s.realisation).cells

abbrev pub replay_done : Inputs → Schedule → Result Done Fault
replay_done inputs s = Ok (record { output = None; out = replay_text inputs.parameters (setup_for inputs) s })

-- where each level has enough positions: the schedule is read, and replayed
abbrev pub replay_steps : List ℕ → Inputs → Held → Result Done Fault
replay_steps name inputs held = read_as (schedule_in inputs.parameters) name held >>= replay_done inputs

-- once the inputs are accepted
abbrev pub replay_of : List ℕ → Inputs → Held → Result Done Fault
replay_of name inputs held = do
  positions ← positions_of (setup_for inputs)
  replay_steps name inputs held

-- by what the files hold
abbrev pub replay_outcome : List ℕ → List ℕ → Held → Result Done Fault
replay_outcome parameters schedule held = do
  inputs ← inputs_of parameters held
  replay_of schedule inputs held

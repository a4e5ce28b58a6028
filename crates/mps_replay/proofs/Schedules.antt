-- Reading a schedule, and what never comes of it.
use Rattle.std.proofs.Common.{◌≡◌, refl, sym, ◌∙◌, ap, inl, inr, ℕ, ◌<◌, ◌^◌, Bool, true, false, cond, ltb, List, length, Result, Err, arith}
use Rattle.std.proofs.lemmas.Bool.{false≢true, lt-ltb}
use Rattle.std.proofs.lemmas.List.{length-take}
use Rattle.mp_outside.specs.Contents.{Held, IsReadUpTo}
use Rattle.mp_params.specs.Params.{ParamsValue}
use Rattle.spec_steps.specs.Schedule.{schedule_of}
use Rattle.spec_steps.specs.declared.schedule.Schedule.{Schedule}
use Rattle.spec_steps.specs.declared.schedule.ScheduleError.{ScheduleError}
use Rattle.spec_steps.specs.declared.schedule.ScheduleError.TheVariants as schedule
use Rattle.mps_inputs.specs.Inputs.{judged, read_as}
use Rattle.mps_inputs.specs.Setup.{positions_of, setup_for}
use Rattle.mps_inputs.specs.declared.fault.Fault.TheVariants.{Usage, Schedule as RefusedSchedule}
use Rattle.mps_inputs.specs.declared.fault.ScheduleFault.TheVariants as fault
use Rattle.mps_inputs.specs.declared.inputs.Inputs.{Inputs}
use Rattle.mps_inputs.proofs.NoUsage.{NoUsage, judged_no_usage, neither_usage, ok_no_usage, positions_no_usage, read_no_usage}
use Rattle.mps_replay.specs.Outcome.{replay_done, replay_of, replay_steps, schedule_fault, schedule_in}

-- no schedule is refused as words are
fault_no_usage : (error : ScheduleError) → schedule_fault error ≡ Usage → ⊥
fault_no_usage (schedule.BadLine line) is = cc is
fault_no_usage schedule.TooLong is = cc is
fault_no_usage schedule.NoMemory is = cc is

pub replay_no_usage : (name : List ℕ) (inputs : Inputs) (held : Held) → NoUsage (replay_of name inputs held)
replay_no_usage name inputs held =
    neither_usage (positions_of (setup_for inputs)) (λ positions. replay_steps name inputs held) (positions_no_usage (setup_for inputs))
    (λ positions. neither_usage (read_as (schedule_in inputs.parameters) name held) (replay_done inputs)
    (read_no_usage (schedule_in inputs.parameters) name held (λ bytes. judged_no_usage _ schedule_fault fault_no_usage))
    (λ s. ok_no_usage _))

-- A file that is longer than its limit is judged by the part that was read.

refused_first : (r : Result Schedule ScheduleError) (t : Bool) → t ≡ true → judged schedule_fault (cond t (Err schedule.TooLong) r) ≡ Err (RefusedSchedule fault.TooLong)
refused_first r true is = refl
refused_first r false is = absurd (false≢true is)

too_long : (p : ParamsValue) (b : List ℕ) → 2 ^ 22 < length b → schedule_in p b ≡ Err (RefusedSchedule fault.TooLong)
unfolding schedule_of
too_long p b over = refused_first _ (ltb (2 ^ 22) (length b)) (lt-ltb (2 ^ 22) (length b) over)

pub schedule_of_front : (p : ParamsValue) (bytes got : List ℕ) → IsReadUpTo (2 ^ 22) bytes got → schedule_in p got ≡ schedule_in p bytes
schedule_of_front p bytes got (front, inl all) = ap (λ (b : List ℕ). schedule_in p b) all
schedule_of_front p bytes got (front, inr long) = too_long p got long ∙ sym (too_long p bytes (omega (arith, length-take (length got) bytes, ap length front)))

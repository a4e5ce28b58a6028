-- From the words to the answer.
use Rattle.std.proofs.Common.{◌≡◌, ◌⊎◌, inl, inr, refl, sym, ap, subst, ℕ, List, ◌++◌, true, Option, Some, None, Result, Ok, Err, arith}
use Rattle.std.specs.Prelude.{IsOk, IsOkAnd, ok_or}
use Rattle.mp_outside.specs.Causes.{Rose}
use Rattle.mp_outside.specs.Contents.{Held}
use Rattle.mps_inputs.specs.Answers.{Causes, IsDone, IsUsage, IsWhole, Serves, seen}
use Rattle.mp_text.specs.Chain.{◌>>=◌}
use Rattle.mps_inputs.specs.Done.{Done}
use Rattle.mps_top.specs.Outcome.{outcome_for, outcome_of}
use Rattle.mp_outside.specs.Seen.{FilesSeen, SinkSeen}
use Rattle.mps_inputs.specs.Status.{status_of, status_of_fault}
use Rattle.mps_words.specs.Words.{command_of}
use Rattle.mps_inputs.specs.declared.fault.Fault.{Fault}
use Rattle.mps_inputs.specs.declared.fault.Fault.TheVariants.{Usage, CannotRead, CannotWrite, OutOfMemory, CannotReport}
use Rattle.mps_words.specs.declared.words.Command.{Command}

-- the outcome of a command, if there is one
abbrev told_outcome : Option Command → Held → Result Done Fault
told_outcome command held = ok_or command Usage >>= λ c. outcome_for c held

module _ (words : List (List ℕ)) (before now : FilesSeen) (out_before out_now : SinkSeen) where
  -- words that are a command
  pub served : (command : Command) (answer : Result (Unit {0}) Fault) → command_of words ≡ Some command → Serves (outcome_for command) (seen before out_before) (seen now out_now) answer → Serves (outcome_of words) (seen before out_before) (seen now out_now) answer
  served command answer is serves = subst (λ (c : Option Command). Serves (told_outcome c) (seen before out_before) (seen now out_now) answer) (sym is) serves

  -- words that are none
  pub refused : command_of words ≡ None → Serves (outcome_of words) (seen before out_before) (seen before out_before) (Err Usage)
  refused is =
      subst (λ (c : Option Command). Serves (told_outcome c) (seen before out_before) (seen before out_before) (Err Usage)) (sym is)
      (record { cause = ((before.held, refl), λ told. refl); files = λ told name. refl; out = λ told. refl })

-- The causes of statuses, by counts.

module _ (outcome : Held → Result Done Fault) (before now : FilesSeen) (out_before out_now : SinkSeen) where
  abbrev Cause : Result (Unit {0}) Fault → Type 0
  Cause answer = Causes outcome (seen before out_before) (seen now out_now) answer

  pub usage_cause : (answer : Result (Unit {0}) Fault) → Cause answer → status_of answer ≡ 1 → IsUsage outcome before
  usage_cause (Err Usage) cause is = cause
  usage_cause (Ok u) cause is = absurd (omega arith)
  usage_cause (Err fault) cause is = absurd (omega arith)

  pub read_cause : (answer : Result (Unit {0}) Fault) → Cause answer → status_of answer ≡ 3 → (name : List ℕ) × Rose (before.reads name) (now.reads name)
  read_cause (Err (CannotRead name)) cause is = (name, cause.0)
  read_cause (Ok u) cause is = absurd (omega arith)
  read_cause (Err fault) cause is = absurd (omega arith)

  pub write_cause : (answer : Result (Unit {0}) Fault) → Cause answer → status_of answer ≡ 4 → (name : List ℕ) × Rose (before.writes name) (now.writes name)
  write_cause (Err (CannotWrite name)) cause is = (name, cause.0)
  write_cause (Ok u) cause is = absurd (omega arith)
  write_cause (Err fault) cause is = absurd (omega arith)

  pub report_cause : (answer : Result (Unit {0}) Fault) → Cause answer → status_of answer ≡ 9 → Rose out_before.faults out_now.faults
  report_cause (Err CannotReport) cause is = cause.0
  report_cause (Ok u) cause is = absurd (omega arith)
  report_cause (Err fault) cause is = absurd (omega arith)

-- Over files and sinks that never fail.

never_rose : Rose 0 0 → ⊥
never_rose rose = omega arith

module _ (outcome : Held → Result Done Fault) (held_before held_now : Held) (written_before written_now : List ℕ) where
  abbrev files : Held → FilesSeen
  files held = record { tells = true; held = held; reads = λ name. 0; writes = λ name. 0 }

  abbrev sink : List ℕ → SinkSeen
  sink written = record { tells = true; written = written; faults = 0 }

  abbrev InMemory : Result (Unit {0}) Fault → Type 0
  InMemory answer = Serves outcome (seen (files held_before) (sink written_before)) (seen (files held_now) (sink written_now)) answer

  some_status : (fault : Fault) → status_of_fault fault ≡ 0 → ⊥
  some_status Usage is = omega arith
  some_status fault is = omega arith

  is_ok_status : (o : Result Done Fault) → IsOk o → 0 ≡ status_of o
  is_ok_status (Ok done) is = refl
  is_ok_status (Err fault) is = absurd (cc is)

  pub status_in_memory : (answer : Result (Unit {0}) Fault) → InMemory answer → (status_of answer ≡ 8) ⊎ (status_of answer ≡ status_of (outcome held_before))
  status_in_memory (Ok u) serves = inr (is_ok_status (outcome held_before) (serves.cause refl))
  status_in_memory (Err (CannotRead name)) serves = absurd (never_rose serves.cause.0)
  status_in_memory (Err (CannotWrite name)) serves = absurd (never_rose serves.cause.0)
  status_in_memory (Err CannotReport) serves = absurd (never_rose serves.cause.0)
  status_in_memory (Err OutOfMemory) serves = inl refl
  status_in_memory (Err Usage) serves = inr (ap status_of (sym (serves.cause.1 refl)))
  status_in_memory (Err fault) serves = inr (ap status_of (sym (serves.cause refl)))

  both : (o : Result Done Fault) → IsOkAnd o (IsWhole held_before held_now) → IsOkAnd o (λ done. written_now ≡ written_before ++ done.out) → IsOkAnd o (λ done. IsWhole held_before held_now done × (written_now ≡ written_before ++ done.out))
  both (Ok done) whole out = (whole, out)
  both (Err fault) whole out = whole

  pub done_in_memory : (answer : Result (Unit {0}) Fault) → InMemory answer → status_of answer ≡ 0 → IsDone outcome held_before held_now written_before written_now
  done_in_memory (Ok u) serves is = both (outcome held_before) (serves.files refl) (serves.out refl refl)
  done_in_memory (Err fault) serves is = absurd (some_status fault is)

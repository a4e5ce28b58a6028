-- What a command that writes no file answers once its text is written to `out`, or couldn't be.
use Rattle.std.proofs.Common.{inl, inr, refl, sym, subst, ℕ, List, None, Result, Ok, Err}
use Rattle.std.specs.Prelude.{IfErr}
use Rattle.mp_outside.specs.Seen.{FilesSeen, SinkSeen}
use Rattle.mps_inputs.specs.Answers.{Ends, seen}
use Rattle.mps_inputs.specs.Done.{Done}
use Rattle.mps_inputs.specs.Files.{IsReportFault, Reported}
use Rattle.mps_inputs.specs.declared.fault.Fault.{Fault}

-- the text for `out`, where no file is written
module _ (text : List ℕ) (files : FilesSeen) (before now : SinkSeen) where
  abbrev reported : Result Done Fault
  reported = Ok (record { output = None; out = text })

  unreported : (fault : Fault) → Reported text before now (Err fault) → IsReportFault before now fault → Ends reported (seen files before) (seen files now) (Err fault)
  unreported fault front (inl memory) =
      subst (λ f. Ends reported (seen files before) (seen files now) (Err f)) (sym memory)
      (record { cause = tt; files = λ told. inl (λ name. refl); out = λ told_out. inr (λ told. front told_out) })
  unreported fault front (inr write) =
      subst (λ f. Ends reported (seen files before) (seen files now) (Err f)) (sym write.0)
      (record { cause = (write.1, refl); files = λ told name. refl; out = λ told_out told. front told_out })

  pub report_ends : (answer : Result (Unit {0}) Fault) → Reported text before now answer → IfErr answer (IsReportFault before now) → Ends reported (seen files before) (seen files now) answer
  report_ends (Ok u) written cause = record { cause = refl; files = λ told name. refl; out = λ told_out told. written told_out }
  report_ends (Err fault) written cause = unreported fault written cause

-- What `run` answers once its file and its report are written, or couldn't be.
use Rattle.std.proofs.Common.{◌≡◌, inl, inr, refl, sym, ◌∙◌, ap, subst, ℕ, List, length, Some, Result, Ok, Err}
use Rattle.std.specs.Prelude.{IfErr, IsTrue}
use Rattle.std.proofs.Math.Seq.{take-length}
use Rattle.mp_outside.specs.Contents.{OnlyHeldAt}
use Rattle.mps_inputs.specs.Answers.{Ends, seen}
use Rattle.mps_inputs.specs.Files.{IsReportFault, IsWriteFault, Reported, Written}
use Rattle.mps_inputs.specs.Done.{Done}
use Rattle.mp_outside.specs.Seen.{FilesSeen, SinkSeen}
use Rattle.mps_inputs.specs.declared.fault.Fault.{Fault}

-- the output file, and then the report
module _ (name text report : List ℕ) (before now : FilesSeen) (others : OnlyHeldAt name before.held now.held) where
  abbrev done : Result Done Fault
  done = Ok (record { output = Some (record { name = name; text = text }); out = report })

  pub unwritten : (out : SinkSeen) (fault : Fault) → Written {A = Unit {0}} name text before now (Err fault) → IsWriteFault name before now fault → Ends done (seen before out) (seen now out) (Err fault)
  unwritten out fault front (inl memory) =
      subst (λ f. Ends done (seen before out) (seen now out) (Err f)) (sym memory)
      (record { cause = tt; files = λ told. inr (record { front = front told; others = others }); out = λ told. inl refl })
  unwritten out fault front (inr write) =
      subst (λ f. Ends done (seen before out) (seen now out) (Err f)) (sym write.0)
      (record { cause = (write.1, refl); files = λ told. record { front = front told; others = others }; out = λ told. refl })

  module _ (whole : IsTrue before.tells → now.held name ≡ Some text) (out_before out_now : SinkSeen) where
    untold : (fault : Fault) → Reported report out_before out_now (Err fault) → IsReportFault out_before out_now fault → Ends done (seen before out_before) (seen now out_now) (Err fault)
    untold fault front (inl memory) =
        subst (λ f. Ends done (seen before out_before) (seen now out_now) (Err f)) (sym memory)
        (record {
          cause = tt;
          files = λ told. inr (record { front = inr (length text, whole told ∙ ap Some (sym (take-length text))); others = others });
          out = λ told_out. inr (λ told. front told_out);
        })
    untold fault front (inr write) =
        subst (λ f. Ends done (seen before out_before) (seen now out_now) (Err f)) (sym write.0)
        (record { cause = (write.1, refl); files = λ told. record { text = whole told; others = others }; out = λ told_out told. front told_out })

    pub run_ends : (answer : Result (Unit {0}) Fault) → Reported report out_before out_now answer → IfErr answer (IsReportFault out_before out_now) → Ends done (seen before out_before) (seen now out_now) answer
    run_ends (Ok u) written cause = record { cause = refl; files = λ told. record { text = whole told; others = others }; out = λ told_out told. written told_out }
    run_ends (Err fault) written cause = untold fault written cause

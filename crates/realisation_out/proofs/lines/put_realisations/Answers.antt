use Rattle.std.proofs.Common.{arith, ap, ◌∙◌, List, ℕ, ◌++◌}
use Rattle.realisation_out.specs.Report.{realisation_line}
use Rattle.realisation_out.proofs.ReportLemmas.{realisation_more, realisations_all}
use Rattle.realisation_out.proofs.lines.put_realisations.Goals as goal

pub loop-number-preserved : goal.loop-number-preserved
loop-number-preserved c =
    c.in_ok-put_realisation.ensures
    ∙ ap (λ (counts : List ℕ). c.loop-number.to.items ++ realisation_line (c.loop-number.number, counts)) c.as_slice.ensures.parts
    ∙ ap (λ (now : List ℕ). now ++ realisation_line (c.loop-number.number, c.index-realisations-number.result)) c.loop-number.invariant
    ∙ realisation_more c.args.realisations.now c.args.to.now.items c.loop-number.number c.index-realisations-number.result (omega arith) c.index-realisations-number.is

pub returns : goal.returns
returns c = c.loop-number.invariant ∙ realisations_all c.args.realisations.now c.args.to.now.items c.loop-number.number (omega arith)

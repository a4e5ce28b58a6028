use Rattle.std.proofs.Common.{arith, refl, ap, ◌∙◌, List, ℕ, ◌+◌, ◌-◌, ◌++◌, get_or, length}
use Rattle.realisation_out.specs.Report.{level_line}
use Rattle.realisation_out.proofs.ReportLemmas.{level_more, levels_all}
use Rattle.realisation_out.proofs.lines.put_levels.Goals as goal

pub loop-done-preserved : goal.loop-done-preserved
loop-done-preserved c =
    let positions = c.args.positions.now in
    let index = length positions - 1 - c.loop-done.done in
    c.in_ok-put_level.ensures
    ∙ ap (λ (now : List ℕ). now ++ level_line c.args.shape (index + 1, get_or positions index 0)) c.loop-done.invariant
    ∙ level_more positions c.args.shape c.args.to.now.items c.loop-done.done (index + 1) (get_or positions index 0) (omega arith) refl refl

pub returns : goal.returns
returns c = c.loop-done.invariant ∙ levels_all c.args.positions.now c.args.shape c.args.to.now.items c.loop-done.done (omega arith)

use Rattle.std.proofs.Common.{◌++◌, ◌∙◌, sym, ap, true, false, append-nil}
use Rattle.ti_scan.proofs.Blocks.{cells_marked_none, push-more}
use Rattle.ti_scan.proofs.marks.push_marked.Goals as goal
use Rattle.ti_scan.proofs.marks.push_marked.Goals.{then-marks-i+in_ok-push, else-marks-i}

pub loop-i-init : goal.loop-i-init
loop-i-init c = sym (ap (λ l. c.args.cells.now.items ++ l) (cells_marked_none c.args.marks.now c.args.first) ∙ append-nil c.args.cells.now.items)

pub loop-i-preserved : goal.loop-i-preserved
loop-i-preserved c = elim c.if-marks-i.branch [
  | then-marks-i+in_ok-push w ↦
      ap (λ v. v.items) w.cells-is ∙ w.in_ok-push.ensures.items
      ∙ push-more c.loop-i.cells.items c.args.cells.now.items c.args.marks.now c.args.first c.loop-i.i c.loop-i.invariant true w.if-marks-i.true
  | else-marks-i w ↦
      ap (λ v. v.items) w.cells-is ∙ sym (append-nil c.loop-i.cells.items)
      ∙ push-more c.loop-i.cells.items c.args.cells.now.items c.args.marks.now c.args.first c.loop-i.i c.loop-i.invariant false w.if-marks-i.false
]

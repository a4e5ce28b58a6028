use Rattle.std.proofs.Common.{arith, sym, ◌+◌}
use Rattle.ti_scan.proofs.Marking.{marks_in_none, marks_in_more, marks_in-le}
use Rattle.ti_scan.proofs.marks.count_marks.Goals as goal

pub loop-i-init : goal.loop-i-init
loop-i-init c = sym (marks_in_none c.args.marks.now)

pub overflow_add-count : goal.overflow_add-count
overflow_add-count c = omega (arith, c.one_if-count.ensures, marks_in_more c.args.marks.now c.loop-i.i, marks_in-le c.args.marks.now (c.loop-i.i + 1))

pub loop-i-preserved : goal.loop-i-preserved
loop-i-preserved c = omega (arith, c.one_if-count.ensures, marks_in_more c.args.marks.now c.loop-i.i)

pub returns-clause-few : goal.returns-clause-few
returns-clause-few c = omega (arith, marks_in-le c.args.marks.now c.loop-i.i)

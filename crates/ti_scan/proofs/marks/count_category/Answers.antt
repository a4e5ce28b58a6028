use Rattle.std.proofs.Common.{arith, sym, ◌+◌}
use Rattle.ti_scan.proofs.Marking.{marked_none, marked_more, marked-le}
use Rattle.ti_scan.proofs.marks.count_category.Goals as goal

pub loop-i-init : goal.loop-i-init
loop-i-init c = sym (marked_none c.args.marks.now c.args.bytes.now c.args.wanted)

pub overflow_add-count : goal.overflow_add-count
overflow_add-count c =
    omega (
      arith,
      c.one_if-count.ensures,
      marked_more c.args.marks.now c.args.bytes.now c.args.wanted c.loop-i.i,
      marked-le c.args.marks.now c.args.bytes.now c.args.wanted (c.loop-i.i + 1),
    )

pub loop-i-preserved : goal.loop-i-preserved
loop-i-preserved c = omega (arith, c.one_if-count.ensures, marked_more c.args.marks.now c.args.bytes.now c.args.wanted c.loop-i.i)

pub returns-clause-few : goal.returns-clause-few
returns-clause-few c = omega (arith, marked-le c.args.marks.now c.args.bytes.now c.args.wanted c.loop-i.i)

use Rattle.std.proofs.Common.{◌≡◌, ℕ, ◌+◌, nat_le, subst, arith}
use Rattle.std.specs.Int.RustNames.{bit_and}
use Rattle.pattern_blocks.specs.Bits.{AreMarks}
use Rattle.pattern_blocks.specs.Rows.{matched}
use Rattle.pattern_blocks.proofs.Matching.{first_marks, kept_marks, none_later}
use Rattle.pattern_blocks.proofs.block.items_with.Goals as goal

pub loop-i-init : goal.loop-i-init
loop-i-init c = first_marks c.args.rows.now c.args.block c.args.event.now c.args.from c.requires.shown

pub loop-i-preserved : goal.loop-i-preserved
loop-i-preserved c = kept_marks c.args.rows.now c.args.block c.args.event.now c.loop-i.i c.index-event-i.result c.index-event-i.is (omega (arith, c.loop-i-test.true, c.requires.to)) c.loop-i.marks c.loop-i.invariant c.word-marks.result c.word-marks.ensures

pub returns-then-marks-eq0 : goal.returns-then-marks-eq0
returns-then-marks-eq0 c =
    none_later c.args.rows.now c.args.block c.args.event.now (c.loop-i.i + 1) c.args.to (bit_and c.loop-i.marks c.word-marks.result) (omega (arith, c.loop-i-test.true))
    (kept_marks c.args.rows.now c.args.block c.args.event.now c.loop-i.i c.index-event-i.result c.index-event-i.is (omega (arith, c.loop-i-test.true, c.requires.to)) c.loop-i.marks c.loop-i.invariant c.word-marks.result c.word-marks.ensures)
    c.if-marks-eq0.true

pub returns : goal.returns
returns c =
    let end : c.loop-i.i ≡ c.args.to = omega (arith, c.loop-i.auto.i-end, c.requires.order, c.loop-i-test.false) in
    subst (λ (n : ℕ). AreMarks (λ s. nat_le n (matched c.args.rows.now c.args.block c.args.event.now s)) c.loop-i.marks) end c.loop-i.invariant

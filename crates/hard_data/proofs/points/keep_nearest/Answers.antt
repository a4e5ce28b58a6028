use Rattle.std.proofs.Common.{◌≡◌, ◌+◌, ◌++◌, cond, not, take, drop, length, refl, replicate, rules, arith, ap, sym, ◌∙◌, add-zero, subst}
use Rattle.std.proofs.Math.Seq.{take-append_seam}
use Rattle.hard_data.specs.Points.{is_skipped}
use Rattle.hard_data.specs.Kept.{RowsAreKept}
use Rattle.hard_data.proofs.KeptRows.{no_row_kept, skipped_more}
use Rattle.hard_data.proofs.points.keep_nearest.Goals as goal
use Rattle.hard_data.proofs.points.keep_nearest.Goals.{then-not-place, else-not-place}

pub loop-number-init : goal.loop-number-init
loop-number-init c =
    let none : c.in_ok-numbers.numbers.items ≡ replicate c.cells.result 4294967295 = search rules in
    record {
      kept = no_row_kept c.args.frame.now c.args.rows.now c.in_ok-numbers.numbers.items c.cells.result 4294967295 none c.cells.ensures.count (omega arith);
      skipped = refl;
    }

pub loop-number-preserved : goal.loop-number-preserved
loop-number-preserved c =
    let frame = c.args.frame.now in
    let rows = c.args.rows.now in
    let n = c.loop-number.number in
    let new = c.place.new.numbers in
    let old = c.loop-number.numbers in
    let all : take old.len (new ++ drop (length new) old.items) ≡ new = ap (λ k. take k (new ++ drop (length new) old.items)) (sym (c.place.auto.numbers ∙ c.deref_mut.ensures.len)) ∙ take-append_seam new (drop (length new) old.items) in
    let more = ap (λ k. k + cond (is_skipped frame c.in-Some.row) 1 0) c.loop-number.invariant.skipped ∙ sym (skipped_more frame rows n c.in-Some.row (sym c.in-Some.ensures.row)) in
    let counted : c.if-not-place.skipped ≡ c.loop-number.skipped + cond (not c.place.result) 1 0 =
    elim c.if-not-place.branch [
      | then-not-place w ↦ w.skipped-is ∙ ap (λ b. c.loop-number.skipped + cond (not b) 1 0) (sym w.if-not-place.true)
      | else-not-place w ↦ w.skipped-is ∙ sym (add-zero c.loop-number.skipped) ∙ ap (λ b. c.loop-number.skipped + cond (not b) 1 0) (sym w.if-not-place.false)
    ] in
    record {
      kept = subst (RowsAreKept frame rows (n + 1)) (sym all) c.place.ensures.kept;
      skipped = counted ∙ ap (λ b. c.loop-number.skipped + cond (not b) 1 0) c.place.ensures.skipped ∙ more;
    }

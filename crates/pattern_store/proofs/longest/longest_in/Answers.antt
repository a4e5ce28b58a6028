use Rattle.std.proofs.Common.{◌≡◌, ℕ, ◌<◌, ◌+◌, ◌-◌, ◌∙◌, ap, sym, inl, inr, arith}
use Rattle.ti_scan.proofs.Greatest.{greatest_is}
use Rattle.pattern_store.specs.Longest.{is_enough, prefix_counts, rows_from}
use Rattle.pattern_store.proofs.StoreSums.{zero_parts}
use Rattle.pattern_store.proofs.RowSums.{above_more, counts_taken, enough, row_fits, row_summed, rows_none, too_few}
use Rattle.pattern_store.proofs.longest.longest_in.Goals as goal
use Rattle.pattern_store.proofs.longest.longest_in.Goals.{then-total-from-via-then-total-from, then-total-from-via-else-total-from+then-len-eq0}

pub loop-parts-init : goal.loop-parts-init
loop-parts-init c = record {
  within = omega arith;
  from = c.requires.least;
  sums = λ k below. zero_parts k ∙ sym (rows_none c.args.blocks.now.shown c.args.blocks.now.counts c.args._groups c.args.event.now k);
  above = λ m beyond within. absurd (omega arith);
}

pub add_row-requires-clause-room : goal.add_row-requires-clause-room
add_row-requires-clause-room c = λ k below.
    let small : k < c.args.blocks.now.shown.cats = omega (arith, c.cats-cats.ensures) in
    omega (arith, row_fits c.args.blocks.now.shown c.args.blocks.now.counts c.args._groups c.args.event.now c.args.least c.cats-cats.result c.loop-parts.len k c.args.tally.now c.loop-parts.parts c.requires.tally c.cats-cats.ensures (omega (arith, c.requires.few, c.loop-parts.invariant.within)) c.loop-parts.invariant.within c.loop-parts.invariant.from small (c.loop-parts.invariant.sums k small), c.requires.room c.loop-parts.len k small)

pub loop-parts-preserved : goal.loop-parts-preserved
loop-parts-preserved c =
    let found : c.of-counts.result ≡ prefix_counts c.args.blocks.now.shown c.args.blocks.now.counts c.args._groups c.args.event.now c.loop-parts.len = c.of-counts.ensures ∙ counts_taken c.args.blocks.now.shown c.args.blocks.now.counts c.args._groups c.args.event.now c.loop-parts.len c.cats-cats.result c.add_row.new.parts c.cats-cats.ensures (omega (arith, c.requires.cats, c.cats-cats.ensures, c.add_row.array_long, c.add_row.array_long2)) (λ k below. row_summed c.args.blocks.now.shown c.args.blocks.now.counts c.args._groups c.args.event.now c.args.least c.cats-cats.result c.loop-parts.len k c.args.tally.now c.loop-parts.parts c.add_row.new.parts c.requires.tally c.cats-cats.ensures (omega (arith, c.requires.few, c.loop-parts.invariant.within)) c.loop-parts.invariant.within c.loop-parts.invariant.from below (c.loop-parts.invariant.sums k below) c.add_row.ensures) in
    let back : c.loop-parts.len - 1 + 1 ≡ c.loop-parts.len = omega arith in
    record {
      within = omega (arith, c.loop-parts.invariant.within);
      from = omega (arith, c.loop-parts.invariant.from);
      sums = λ k below. row_summed c.args.blocks.now.shown c.args.blocks.now.counts c.args._groups c.args.event.now c.args.least c.cats-cats.result c.loop-parts.len k c.args.tally.now c.loop-parts.parts c.add_row.new.parts c.requires.tally c.cats-cats.ensures (omega (arith, c.requires.few, c.loop-parts.invariant.within)) c.loop-parts.invariant.within c.loop-parts.invariant.from below (c.loop-parts.invariant.sums k below) c.add_row.ensures ∙ ap (λ (n : ℕ). rows_from c.args.blocks.now.shown c.args.blocks.now.counts c.args._groups c.args.event.now n k) (sym back);
      above = above_more c.args.blocks.now.shown c.args.blocks.now.counts c.args._groups c.args.event.now c.args.min c.loop-parts.len (omega arith) (too_few c.args.blocks.now.shown c.args.blocks.now.counts c.args._groups c.args.event.now c.args.min c.loop-parts.len c.total.result c.of-counts.result found c.total.ensures (omega (arith, c.from.ensures))) c.loop-parts.invariant.above;
    }

pub returns-then-total-from-clause-some : goal.returns-then-total-from-clause-some
returns-then-total-from-clause-some c =
    let found : c.of-counts.result ≡ prefix_counts c.args.blocks.now.shown c.args.blocks.now.counts c.args._groups c.args.event.now c.loop-parts.len = c.of-counts.ensures ∙ counts_taken c.args.blocks.now.shown c.args.blocks.now.counts c.args._groups c.args.event.now c.loop-parts.len c.cats-cats.result c.add_row.new.parts c.cats-cats.ensures (omega (arith, c.requires.cats, c.cats-cats.ensures, c.add_row.array_long, c.add_row.array_long2)) (λ k below. row_summed c.args.blocks.now.shown c.args.blocks.now.counts c.args._groups c.args.event.now c.args.least c.cats-cats.result c.loop-parts.len k c.args.tally.now c.loop-parts.parts c.add_row.new.parts c.requires.tally c.cats-cats.ensures (omega (arith, c.requires.few, c.loop-parts.invariant.within)) c.loop-parts.invariant.within c.loop-parts.invariant.from below (c.loop-parts.invariant.sums k below) c.add_row.ensures) in
    record {
      longest = sym (greatest_is (is_enough c.args.blocks.now.shown c.args.blocks.now.counts c.args._groups c.args.event.now c.args.min) _ c.loop-parts.len c.loop-parts.invariant.within (elim c.then-total-from.branch [
        | then-total-from-via-then-total-from w ↦ inl (enough c.args.blocks.now.shown c.args.blocks.now.counts c.args._groups c.args.event.now c.args.min c.loop-parts.len c.total.result c.of-counts.result found c.total.ensures (omega (arith, c.from.ensures)))
        | then-total-from-via-else-total-from+then-len-eq0 w ↦ inr w.if-len-eq0.true
      ]) c.loop-parts.invariant.above);
      counts_are = found;
    }

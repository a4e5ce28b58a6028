use Rattle.std.proofs.Common.{◌∙◌, length, sym, arith}
use Rattle.pattern_store.proofs.StoreSums.{zero_parts}
use Rattle.pattern_store.proofs.RowSums.{counts_taken, row_summed, rows_none}
use Rattle.pattern_store.proofs.answering.counts_of.Goals as goal

pub returns : goal.returns
returns g c =
    let shown = c.args.blocks.now.shown in
    let counts = c.args.blocks.now.counts in
    let groups = c.args.groups in
    let event = c.args.event.now in
    let rows = c.requires.tallies (length event) c.tally-rows.result (omega arith) c.tally-rows.ensures in
    c.of.ensures
    ∙ counts_taken shown counts groups event (length event) c.cats-cats.result c.add_row.new.parts c.cats-cats.ensures (omega (arith, c.requires.store.few_cats, c.cats-cats.ensures, c.add_row.array_long, c.add_row.ensures.count))
    (λ k small. row_summed shown counts groups event (length event) c.cats-cats.result (length event) k c.tally-rows.result _ c.add_row.new.parts rows c.cats-cats.ensures c.requires.few (omega arith) (omega arith) small (zero_parts k ∙ sym (rows_none shown counts groups event k)) c.add_row.ensures)

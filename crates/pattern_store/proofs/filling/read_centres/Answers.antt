use Rattle.pattern_store.proofs.Eroding.{eroded_at}
use Rattle.pattern_store.proofs.filling.read_centres.Goals as goal

pub category_at-requires-clause-eroded : goal.category_at-requires-clause-eroded
category_at-requires-clause-eroded c =
    eroded_at c.args.eroded.now.image c.args.eroded.now.template c.positions-cells.result.now c.loop-i.i c.index-cells-i.result c.positions-cells.ensures.positions c.loop-i-test.true c.index-cells-i.is

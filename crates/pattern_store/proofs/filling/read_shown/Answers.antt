use Rattle.std.proofs.Common.{List, subst, ℕ}
use Rattle.pattern_store.specs.Levels.{AreShown}
use Rattle.pattern_store.proofs.Source.{positions_eroded}
use Rattle.pattern_store.proofs.filling.read_shown.Goals as goal

pub read_around-requires-clause-cells : goal.read_around-requires-clause-cells
read_around-requires-clause-cells c =
    let s = c.args.eroded.now in
    positions_eroded s c.positions-cells.ensures.source c.positions-cells.result.now c.positions-cells.ensures.positions (λ i within. c.positions-cells.ensures.inside i 0 within)

pub returns : goal.returns
returns c =
    let s = c.args.eroded.now in
    subst (λ (l : List ℕ). AreShown s c.args.position l c.read_around.new.shown) c.positions-cells.ensures.positions c.read_around.ensures

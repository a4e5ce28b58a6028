use Rattle.std.proofs.Common.{arith, is_some}
use Rattle.std.proofs.lemmas.List.Sums.{AllPass-from_list_all}
use Rattle.mp_base.specs.Grid.{cell_at}
use Rattle.ti_scan.proofs.erosion.keep_surrounded.Goals as goal

pub bytes_at-requires-clause-ends : goal.bytes_at-requires-clause-ends
bytes_at-requires-clause-ends c = λ last is.
    AllPass-from_list_all (λ w. is_some (cell_at c.args.ground.now.image.now.sides last w)) c.args.ground.now.vectors.now (c.args.ground.now.inside.span.ends last is (omega arith)) c.loop-v.v-index _ c.loop-v-test.true

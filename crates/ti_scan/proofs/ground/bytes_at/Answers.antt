use Rattle.std.proofs.Common.{rules, arith, ◌≡◌, ◌+◌, ◌-◌, ◌≤◌, ◌<◌, Some, length}
use Rattle.mp_base.specs.Grid.{cell_at}
use Rattle.ti_scan.proofs.Shifting.{reach_end, at_vector}
use Rattle.ti_scan.proofs.ground.bytes_at.Goals as goal

pub prove-unreachable-requires : goal.prove-unreachable-requires
prove-unreachable-requires c =
    let at : cell_at c.args.image.now.sides c.args.span.first c.args.v ≡ Some c.in-Some.shifted = search rules in
    let end = reach_end c.args.image.now.sides c.args.span.first c.args.span.cells c.in-Some.shifted c.args.v c.shape.ensures.grid.shape (omega arith) c.requires.within at c.requires.ends in
    let short : length c.as_bytes-bytes.result.now < c.in-Some.shifted + c.args.start + c.args.len = rw (← c.shifted.view_is) c.if-prove.true in
    omega (arith, end, short, c.as_bytes-bytes.ensures.count, c.requires.fits)

pub returns : goal.returns
returns c =
    let at : cell_at c.args.image.now.sides c.args.span.first c.args.v ≡ Some c.in-Some.shifted = search rules in
    let whole : c.in-Some.shifted + c.args.start + c.args.len ≤ length c.as_bytes-bytes.result.now = rw (← c.shifted.view_is) c.if-prove.false in
    let are = at_vector c.args.image.now c.as_bytes-bytes.result.now c.args.v c.args.span.first c.args.start c.args.len c.in-Some.shifted c.as_bytes-bytes.ensures.cells at whole in
    let count : c.in-Some.shifted + c.args.start + c.args.len - (c.in-Some.shifted + c.args.start) ≡ c.args.len = omega arith in
    rw c.shifted.view_is (rw count are)

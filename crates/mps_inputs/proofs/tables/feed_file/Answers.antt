use Rattle.std.proofs.Common.{◌+◌, ◌^◌, ◌≤◌, arith}
use Rattle.mps_inputs.proofs.TablePieces.{place_few}
use Rattle.mps_inputs.proofs.tables.feed_file.Goals as goal

pub overflow_add-at : goal.overflow_add-at
overflow_add-at g c =
    let few : c.loop-count.at + c.in_ok-count.count ≤ 2 ^ 28 =
    place_few c.args.want c.loop-count.reader.codes c.args.name.now c.feed_piece.new.reader (g.F.Files.seen c.feed_piece.new.files) (c.loop-count.at + c.in_ok-count.count) c.in_ok-count.ensures.more in
    omega arith

pub loop-count-smaller : goal.loop-count-smaller
loop-count-smaller g c =
    let few : c.loop-count.at + c.in_ok-count.count ≤ 2 ^ 28 =
    place_few c.args.want c.loop-count.reader.codes c.args.name.now c.feed_piece.new.reader (g.F.Files.seen c.feed_piece.new.files) (c.loop-count.at + c.in_ok-count.count) c.in_ok-count.ensures.more in
    omega arith

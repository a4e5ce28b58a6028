use Rattle.std.proofs.Common.{◌++◌, take, subst, sym}
use Rattle.gslib_grid.specs.Table.{Tells}
use Rattle.gslib_grid.specs.Reader.{told_so_far}
use Rattle.mps_inputs.specs.Answers.{IsInputFault}
use Rattle.mps_inputs.specs.Inputs.{read_as}
use Rattle.mps_inputs.specs.Tables.{table_in}
use Rattle.mps_inputs.proofs.TablePieces.{fed_more, piece_told, place_few}
use Rattle.mps_inputs.proofs.tables.feed_piece.Goals as goal

pub read_at-requires : goal.read_at-requires
read_at-requires g c =
    place_few c.args.want c.args.reader.now.codes c.args.name.now c.args.reader.now (g.F.Files.seen c.args.files.now) c.args.at c.requires.fed

pub returns-in-Ok-feed-clause-more : goal.returns-in-Ok-feed-clause-more
returns-in-Ok-feed-clause-more g c =
    fed_more c.args.want c.args.reader.now.codes c.args.name.now c.args.reader.now (g.F.Files.seen c.args.files.now) c.args.at c.requires.fed
    c.in-Ok.count c.read_at.new.buf c.in-Ok.ensures.bound c.in-Ok.ensures.bytes c.feed.new.self (g.F.Files.seen c.read_at.new.self) c.in-Ok.ensures.only c.in-Ok-feed.ensures.fed c.in-Ok-feed.ensures.told

pub returns-in-Err-clause-fault : goal.returns-in-Err-clause-fault
returns-in-Err-clause-fault g c =
    let reader = c.args.reader.now in
    let told : Tells c.in-Err.error (told_so_far c.args.want reader.codes (c.requires.fed.bytes ++ take c.in-Ok.count c.read_at.new.buf)) =
    c.in-Err.ensures.answer c.args.want reader.codes c.requires.fed.bytes c.requires.fed.fed in
    subst (IsInputFault (read_as (table_in c.args.want reader.codes) c.args.name.now) (g.F.Files.seen c.args.files.now) (g.F.Files.seen c.read_at.new.self)) (sym c.fault_for.ensures)
    (piece_told c.args.want reader.codes c.args.name.now reader (g.F.Files.seen c.args.files.now) c.args.at c.requires.fed c.in-Ok.count c.read_at.new.buf c.in-Ok.ensures.bound c.in-Ok.ensures.bytes (g.F.Files.seen c.read_at.new.self) c.in-Err.error told)

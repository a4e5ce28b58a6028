-- The cells of the sequential log.
use Rattle.std.proofs.Common.{◌≡◌, ◌<◌, length, get_or, arith}
use Rattle.std.specs.List.{All}
use Rattle.event_retrieve.specs.Plan.{Plan, cell_of, IsPath}
use Rattle.event_retrieve.specs.Sequential.{sequential}
use Rattle.event_retrieve.proofs.Logs.{IsLog-sequential}

-- the cells of the sequential log are inside
pub log-inside : (p : Plan) → IsPath p → All (λ e. e.cell < length p.start.cells) (sequential p)
log-inside p path i e in_log =
    let at : (get_or (sequential p) i e).cell ≡ cell_of p i = (IsLog-sequential p).cells i e in_log in
    omega (arith, path.inside i (omega (arith, (IsLog-sequential p).whole)))

-- What a node may read by the entries of a board.
use Rattle.std.proofs.Common.{◌≡◌, ℕ, ◌<◌, ◌≤◌, List, true, ap, sym, ◌∙◌, subst, arith}
use Rattle.std.proofs.lemmas.List.{take_all}
use Rattle.mp_base.specs.declared.cell.Entry.{Entry}
use Rattle.mp_base.specs.Cells.{with_entries}
use Rattle.mp_base.specs.Grid.{Field, field, cat_of}
use Rattle.event_retrieve.specs.Plan.{Plan, IsPlan, nodes_in, grid_at}
use Rattle.event_retrieve.specs.Sequential.{sequential}
use Rattle.event_retrieve.specs.Gather.{is_early, MayBeRead}
use Rattle.event_retrieve.proofs.Gathered.{read_after}
use Rattle.event_retrieve.proofs.Logs.{take-log_of}
use Rattle.commit_board.specs.Board.{State, IsBoard, Fits, front}

-- the grid after a board's entries is the sequential log's after as many
pub grid_now : (p : Plan) (b : State) → Fits p b → IsBoard b → grid_at p b.log (front b) ≡ grid_at p (sequential p) (front b)
grid_now p b fits board =
    let within : front b ≤ nodes_in p = omega (arith, board.behind, board.inside, fits.whole) in
    ap (λ (l : List Entry). field p.start.sides (with_entries p.start.cells l))
    (take_all (front b) b.log (omega arith) ∙ fits.prefix ∙ sym (take-log_of p (front b) (nodes_in p) within))

-- what a cell has by them may be read of it, where it is known at the start or its turn comes before the node's
pub read_now : (p : Plan) (b : State) → Fits p b → IsBoard b → IsPlan p → (seen i c : ℕ) → seen ≤ front b → i < nodes_in p → is_early p i c ≡ true → MayBeRead p seen i c (cat_of (grid_at p b.log (front b)).cells c)
read_now p b fits board plan seen i c later within early =
    let all : front b ≤ nodes_in p = omega (arith, board.behind, board.inside, fits.whole) in
    subst (λ (g : Field). MayBeRead p seen i c (cat_of g.cells c)) (sym (grid_now p b fits board))
    (read_after p plan.path seen i (front b) c later all (omega arith) early)

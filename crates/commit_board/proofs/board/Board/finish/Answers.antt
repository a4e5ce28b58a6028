use Rattle.std.proofs.Common.{◌∙◌, ◌<◌, List, All, length, subst, sym}
use Rattle.mp_base.specs.declared.cell.Entry.{Entry}
use Rattle.event_retrieve.proofs.Below.{log_below}
use Rattle.commit_board.proofs.board.Board.finish.Goals as goal

pub returns-clause-cats : goal.returns-clause-cats
returns-clause-cats g c =
    let p = c.args.plan.now in
    subst (λ (l : List Entry). All (λ (e : Entry). e.cat < p.source.cats) l) (sym (c.into_log.ensures ∙ c.loop-board.invariant.fits.prefix)) (log_below p c.length.ensures.plan (length c.loop-board.board.log))

use Rattle.std.proofs.Common.{arith, ◌≡◌, ℕ, ◌≤◌, List, length, Option, None, sym, subst, ap, ◌∙◌}
use Rattle.mp_base.specs.declared.cell.Entry.{Entry}
use Rattle.mp_base.specs.Grid.{cat_of}
use Rattle.event_retrieve.specs.Gather.{IfCell, MayBeRead}
use Rattle.event_retrieve.specs.Plan.{IsFront, grid_at, nodes_in}
use Rattle.event_retrieve.proofs.Logs.{IsFront-log_of}
use Rattle.commit_board.proofs.Reading.{read_now}
use Rattle.commit_board.proofs.tests.look_once.Goals as goal

pub cat_after-requires-clause-front : goal.cat_after-requires-clause-front
cat_after-requires-clause-front c =
    let p = c.args.plan.now in
    let b = c.args.board.now in
    let within : length b.log ≤ nodes_in p = omega (arith, c.log.ensures.board.behind, c.log.ensures.board.inside, c.requires.fits.whole) in
    subst (IsFront p) (sym (c.log.ensures.log ∙ c.requires.fits.prefix)) (IsFront-log_of p (length b.log) within)

pub returns-in-Outside-clause-between : goal.returns-in-Outside-clause-between
returns-in-Outside-clause-between c =
    let p = c.args.plan.now in
    let g = c.args.gather.now in
    c.put.ensures.between c.args.seen c.requires.seen.0 c.requires.between
    (subst (λ x. IfCell x (λ d. MayBeRead p c.args.seen g.index d None)) (sym (sym c.wanted.ensures.wanted ∙ c.in-Outside.is)) tt)

pub returns-in-Later-clause-between : goal.returns-in-Later-clause-between
returns-in-Later-clause-between c =
    let p = c.args.plan.now in
    let g = c.args.gather.now in
    c.put-in-Later.ensures.between c.args.seen c.requires.seen.0 c.requires.between
    (subst (λ x. IfCell x (λ d. MayBeRead p c.args.seen g.index d None)) (sym (sym c.wanted.ensures.wanted ∙ c.in-Later.is)) tt)

pub returns-in-Cell-clause-between : goal.returns-in-Cell-clause-between
returns-in-Cell-clause-between c =
    let p = c.args.plan.now in
    let b = c.args.board.now in
    let g = c.args.gather.now in
    let cell = c.in-Cell.cell in
    let value : c.cat_after.result ≡ cat_of (grid_at p b.log (length b.log)).cells cell =
    c.cat_after.ensures ∙ ap (λ (l : List Entry). cat_of (grid_at p l (length l)).cells cell) c.log.ensures.log in
    let read = read_now p b c.requires.fits c.log.ensures.board c.length.ensures.plan c.args.seen g.index cell c.requires.seen.1 c.requires.index c.in-Cell.ensures.early in
    c.put-in-Cell.ensures.between c.args.seen c.requires.seen.0 c.requires.between
    (subst (λ x. IfCell x (λ d. MayBeRead p c.args.seen g.index d c.cat_after.result)) (sym (sym c.wanted.ensures.wanted ∙ c.in-Cell.is))
    (subst (MayBeRead p c.args.seen g.index cell) (sym value) read))

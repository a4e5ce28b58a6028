use Rattle.std.proofs.Common.{arith, ◌≡◌, List, ap, get_or, set, sym, subst, ◌∙◌}
use Rattle.mp_base.specs.declared.cell.Entry.{Entry}
use Rattle.event_retrieve.specs.Plan.{IsFront}
use Rattle.event_retrieve.proofs.Logs.{IsFront-log_of}
use Rattle.commit_board.specs.Board.{front}
use Rattle.spec_core.specs.declared.worker.Worker.{Worker}
use Rattle.spec_core.specs.Worker.{after_look, look_answer}
use Rattle.spec_core.specs.World.{Machine, machine}
use Rattle.spec_core.proofs.Placing.{answer_here, fits_here, own_here, ready}
use Rattle.spec_core.proofs.world.World.look.Goals as goal

pub look-requires-clause-ready : goal.look-requires-clause-ready
look-requires-clause-ready c =
    let p = c.args.plan.now in
    let m = c.args.self.now in
    let w = c.index_mut.result.now in
    let at = c.in-Some.ensures.some in
    let read : w ≡ get_or m.workers c.in-Some.place w = c.index_mut.ensures.value ∙ ap (λ (m : Machine). get_or m.workers c.in-Some.place w) c.self.view_is in
    ready p m.board.next m.shown w (omega (arith, c.requires.board.inside, c.requires.fits.board.whole)) (fits_here m c.args.number c.in-Some.place w at.1 at.0 read p c.requires.fits)

pub look-requires-clause-log : goal.look-requires-clause-log
look-requires-clause-log c =
    let p = c.args.plan.now in
    let b = c.args.self.now.board in
    let log : c.log.result.now ≡ b.log = c.log.ensures.log ∙ ap (λ (m : Machine). m.board.log) c.self.view_is in
    subst (IsFront p) (sym (log ∙ c.requires.fits.board.prefix))
    (IsFront-log_of p (front b) (omega (arith, c.requires.board.behind, c.requires.board.inside, c.requires.fits.board.whole)))

pub returns-in-Some-clause-answer : goal.returns-in-Some-clause-answer
returns-in-Some-clause-answer c =
    let p = c.args.plan.now in
    let m = c.args.self.now in
    let w = c.index_mut.result.now in
    let at = c.in-Some.ensures.some in
    let read : w ≡ get_or m.workers c.in-Some.place w = c.index_mut.ensures.value ∙ ap (λ (m : Machine). get_or m.workers c.in-Some.place w) c.self.view_is in
    let log : c.log.result.now ≡ m.board.log = c.log.ensures.log ∙ ap (λ (m : Machine). m.board.log) c.self.view_is in
    c.look.ensures.answer ∙ ap (λ (l : List Entry). look_answer p l w) log ∙ answer_here m c.args.number c.in-Some.place w at.1 at.0 read (look_answer p m.board.log)

pub returns-in-Some-clause-world : goal.returns-in-Some-clause-world
returns-in-Some-clause-world c =
    let p = c.args.plan.now in
    let m = c.args.self.now in
    let w = c.index_mut.result.now in
    let at = c.in-Some.ensures.some in
    let read : w ≡ get_or m.workers c.in-Some.place w = c.index_mut.ensures.value ∙ ap (λ (m : Machine). get_or m.workers c.in-Some.place w) c.self.view_is in
    let log : c.log.result.now ≡ m.board.log = c.log.ensures.log ∙ ap (λ (m : Machine). m.board.log) c.self.view_is in
    ap (λ (x : Worker). machine c.self.inside.board c.self.inside.shown (set c.self.inside.workers.items c.in-Some.place x)) (c.look.ensures.worker ∙ ap (λ (l : List Entry). after_look p l w) log)
    ∙ ap (λ (n : Machine). machine n.board n.shown (set n.workers c.in-Some.place (after_look p m.board.log w))) c.self.view_is
    ∙ own_here m c.args.number c.in-Some.place w at.1 at.0 read (after_look p m.board.log)

use Rattle.std.proofs.Common.{arith, ◌≡◌, ap, get_or, set, ◌∙◌}
use Rattle.spec_core.specs.declared.worker.Worker.{Worker}
use Rattle.spec_core.specs.Worker.{after_count, count_answer}
use Rattle.spec_core.specs.World.{Machine, machine}
use Rattle.spec_core.proofs.Placing.{answer_here, fits_here, own_here, ready}
use Rattle.spec_core.proofs.world.World.count.Goals as goal

pub count-requires-clause-ready : goal.count-requires-clause-ready
count-requires-clause-ready g c κs within =
    let p = c.args.plan.now in
    let m = c.args.self.now in
    let w = c.index_mut.result.now in
    let at = c.in-Some.ensures.some in
    let read : w ≡ get_or m.workers c.in-Some.place w = c.index_mut.ensures.value ∙ ap (λ (m : Machine). get_or m.workers c.in-Some.place w) c.self.view_is in
    ready p m.board.next m.shown w (omega (arith, c.requires.board.inside, c.requires.fits.board.whole)) (fits_here m c.args.number c.in-Some.place w at.1 at.0 read p c.requires.fits)

pub returns-in-Some-clause-answer : goal.returns-in-Some-clause-answer
returns-in-Some-clause-answer g c =
    let m = c.args.self.now in
    let w = c.index_mut.result.now in
    let at = c.in-Some.ensures.some in
    let read : w ≡ get_or m.workers c.in-Some.place w = c.index_mut.ensures.value ∙ ap (λ (m : Machine). get_or m.workers c.in-Some.place w) c.self.view_is in
    c.count.ensures.answer ∙ answer_here m c.args.number c.in-Some.place w at.1 at.0 read (count_answer c.args.plan.now)

pub returns-in-Some-clause-world : goal.returns-in-Some-clause-world
returns-in-Some-clause-world g c =
    let p = c.args.plan.now in
    let m = c.args.self.now in
    let w = c.index_mut.result.now in
    let at = c.in-Some.ensures.some in
    let read : w ≡ get_or m.workers c.in-Some.place w = c.index_mut.ensures.value ∙ ap (λ (m : Machine). get_or m.workers c.in-Some.place w) c.self.view_is in
    ap (λ (x : Worker). machine c.self.inside.board c.self.inside.shown (set c.self.inside.workers.items c.in-Some.place x)) c.count.ensures.worker
    ∙ ap (λ (m : Machine). machine m.board m.shown (set m.workers c.in-Some.place (after_count p w))) c.self.view_is
    ∙ own_here m c.args.number c.in-Some.place w at.1 at.0 read (after_count p)

use Rattle.std.proofs.Common.{arith, ◌≡◌, ◌<◌, length, ap, sym}
use Rattle.event_retrieve.specs.Plan.{nodes_in}
use Rattle.commit_board.specs.Board.{front}
use Rattle.commit_board.proofs.Vetting.{is_sound, no_fault, passed, refused}
use Rattle.commit_board.proofs.board.Board.vet.Goals as goal

pub returns-in_err-vet_event-clause-sound : goal.returns-in_err-vet_event-clause-sound
returns-in_err-vet_event-clause-sound g c =
    refused c.from_residual.result c.in_err-vet_event.field-0.0 _ _ c.from_residual.ensures.0 c.in_err-vet_event.ensures.fault
    (λ sound. (no_fault c.args.plan.now c.args.offer.now sound.1).0)

pub returns-clause-sound : goal.returns-clause-sound
returns-clause-sound g c =
    let p = c.args.plan.now in
    let o = c.args.offer.now in
    let log = ap length c.log.ensures.log in
    let here : o.index ≡ front c.args.self.now = omega (arith, log) in
    let within : o.index < nodes_in p = omega (arith, log, c.requires.fits.whole, c.log.ensures.board.behind, c.log.ensures.board.inside) in
    passed c.vet_retained.result _ _ c.vet_retained.ensures.fault
    (λ none. (here, is_sound p o _ c.in_ok-vet_event.ensures.rises within (omega arith) (sym c.in_ok-vet_event.ensures.fault) none))
    (λ sound. (no_fault p o sound.1).1)

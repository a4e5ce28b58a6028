use Rattle.std.proofs.Common.{◌<◌, ◌∙◌, ap, refl, sym, subst}
use Rattle.commit_board.specs.Board.{State, front}
use Rattle.spec_run.specs.Bench.{counted_again, settled}
use Rattle.spec_run.proofs.Settling.{has_offer, left_to_count, not_offered, offered_again, offered_at_once, offered_is}
use Rattle.spec_run.proofs.bench.Bench.commit_offered.Goals as goal

pub returns-in-Committed-clause-answer : goal.returns-in-Committed-clause-answer
returns-in-Committed-clause-answer g c =
    sym (offered_is c.args.plan.now c.args.self.now c.in-Committed.ensures.whole c.in-Committed.ensures.fits ∙ ap has_offer (sym c.in-Committed.ensures.answer))

pub returns-in-Committed-clause-board : goal.returns-in-Committed-clause-board
returns-in-Committed-clause-board g c =
    c.in-Committed.ensures.board ∙ offered_at_once c.args.plan.now c.args.self.now c.in-Committed.ensures.whole c.in-Committed.ensures.fits _ c.in-Committed.ensures.answer refl refl

pub returns-in-Stale-clause-answer : goal.returns-in-Stale-clause-answer
returns-in-Stale-clause-answer g c =
    sym (offered_is c.args.plan.now c.args.self.now c.in-Stale.ensures.whole c.in-Stale.ensures.fits ∙ ap has_offer (sym c.in-Stale.ensures.answer))

pub returns-in-Stale-clause-board : goal.returns-in-Stale-clause-board
returns-in-Stale-clause-board g c =
    c.commit_again.ensures.board ∙ ap (λ (x : State). settled c.args.plan.now (counted_again c.args.plan.now x)) c.in-Stale.ensures.board
    ∙ offered_again c.args.plan.now c.args.self.now c.in-Stale.ensures.whole c.in-Stale.ensures.fits _ c.in-Stale.ensures.answer refl refl

pub returns-in-NotOffered-clause-answer : goal.returns-in-NotOffered-clause-answer
returns-in-NotOffered-clause-answer g c =
    sym (offered_is c.args.plan.now c.args.self.now c.in-NotOffered.ensures.whole c.in-NotOffered.ensures.fits ∙ ap has_offer (sym c.in-NotOffered.ensures.answer))

pub returns-in-NotOffered-clause-board : goal.returns-in-NotOffered-clause-board
returns-in-NotOffered-clause-board g c =
    c.in-NotOffered.ensures.board ∙ not_offered c.args.plan.now c.args.self.now c.in-NotOffered.ensures.whole c.in-NotOffered.ensures.fits _ c.in-NotOffered.ensures.answer refl refl

pub returns-in-Ended-clause-answer : goal.returns-in-Ended-clause-answer
returns-in-Ended-clause-answer g c =
    sym (offered_is c.args.plan.now c.args.self.now c.in-Ended.ensures.whole c.in-Ended.ensures.fits ∙ ap has_offer (sym c.in-Ended.ensures.answer))

pub returns-in-Ended-clause-board : goal.returns-in-Ended-clause-board
returns-in-Ended-clause-board g c =
    c.in-Ended.ensures.board ∙ not_offered c.args.plan.now c.args.self.now c.in-Ended.ensures.whole c.in-Ended.ensures.fits _ c.in-Ended.ensures.answer refl refl

pub commit_again-requires-clause-left : goal.commit_again-requires-clause-left
commit_again-requires-clause-left g c κs within =
    subst (λ (x : State). front x < x.nodes) (sym c.in-Stale.ensures.board)
    (left_to_count c.args.plan.now c.args.self.now c.in-Stale.ensures.whole c.in-Stale.ensures.fits _ c.in-Stale.ensures.answer refl)

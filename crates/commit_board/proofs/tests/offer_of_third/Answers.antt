use Rattle.commit_board.proofs.tests.offer_of_third.Goals as goal

pub look-requires-clause-between : goal.look-requires-clause-between
look-requires-clause-between c = c.new-gather.ensures.between c.args.plan.now c.front-seen.result

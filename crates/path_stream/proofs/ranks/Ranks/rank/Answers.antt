use Rattle.std.proofs.Common.{◌≡◌, sym, subst, length, List, ℕ, ◌<◌, get_or, arith}
use Rattle.std.proofs.lemmas.Grind.{common_steps}
use Rattle.path_stream.specs.Ranks.{rank_in}
use Rattle.path_stream.proofs.Slots.{rank_in-outside, rank_in-here}
use Rattle.path_stream.proofs.ranks.Ranks.rank.Goals as goal

pub returns-else-index-len-clause-rank : goal.returns-else-index-len-clause-rank
returns-else-index-len-clause-rank c =
    sym (rank_in-outside c.args.self.now (length c.self.inside.slots.items) c.args.cell
    (subst (λ (path : List ℕ). (i : ℕ) → i < length path → get_or path i 0 < length c.self.inside.slots.items) c.self.view_is c.self.invariant.inside)
    (omega arith))

pub returns-then-index-len-clause-here : goal.returns-then-index-len-clause-here
returns-then-index-len-clause-here c =
    let is : c.checked_sub.result ≡ rank_in c.args.self.now c.args.cell = grind (arith, common_steps) in
    rank_in-here c.args.self.now c.args.cell c.checked_sub.result is

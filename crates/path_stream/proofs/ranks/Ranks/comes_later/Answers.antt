use Rattle.std.proofs.Common.{arith, ◌<◌, ℕ, List, length, get_or, ap, subst, nat_le, false}
use Rattle.std.specs.Option.{option_map_or}
use Rattle.std.proofs.lemmas.Bool.Decides.{nat_tests}
use Rattle.path_stream.proofs.Slots.{rank_in-outside}
use Rattle.path_stream.proofs.ranks.Ranks.comes_later.Goals as goal

pub returns-else-place-len : goal.returns-else-place-len
returns-else-place-len c =
    let nowhere = rank_in-outside c.args.self.now (length c.self.inside.slots.items) c.args.cell
    (subst (λ (path : List ℕ). (i : ℕ) → i < length path → get_or path i 0 < length c.self.inside.slots.items) c.self.view_is c.self.invariant.inside)
    (omega arith) in
    grind (arith, nat_tests, ap (λ r. option_map_or (λ n. nat_le c.args.index n) r false) nowhere)

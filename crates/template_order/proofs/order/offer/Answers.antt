use Rattle.std.proofs.Common.{◌≡◌, ◌≤◌, ◌++◌, ◌∷◌, [], length, true, sym, subst}
use Rattle.std.specs.List.{All}
use Rattle.std.specs.List.Sorted.{IsPermutation}
use Rattle.template_order.specs.Keys.{AreLeast, is_up_to}
use Rattle.template_order.proofs.Least.{AreLeast-past, AreLeast-take}
use Rattle.template_order.proofs.order.offer.Goals as goal

pub returns-then-is_past : goal.returns-then-is_past
returns-then-is_past c =
    let n = c.args.count in
    let k = c.args.key in
    let many = subst (λ xs. n ≤ length xs) c.as_slice.ensures.value (c.is_past.ensures.many c.if-is_past.true) in
    let past = subst (λ xs. All (λ q. is_up_to k q ≡ true) xs) c.as_slice.ensures.value (c.is_past.ensures.later c.if-is_past.true) in
    AreLeast-past n c.args.keys.now.items k c.requires many past

pub returns : goal.returns
returns c =
    let n = c.args.count in
    let all = c.args.keys.now.items ++ c.args.key ∷ [] in
    let same = subst (λ xs. IsPermutation xs c.sort.new.self.items) c.in_ok-push.ensures.items c.sort.ensures.permutation in
    subst (AreLeast n all) (sym c.truncate.ensures.items) (AreLeast-take n all c.sort.new.self.items same c.in_ok-sort.ensures.sorted)

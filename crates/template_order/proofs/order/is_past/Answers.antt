use Rattle.std.proofs.Common.{◌≡◌, ◌-◌, length, get_or, true, subst, sym, ◌∙◌, arith}
use Rattle.std.specs.Ordering.{is_le, nat_cmp, int_cmp}
use Rattle.template_order.specs.Keys.{key_cmp}
use Rattle.template_order.proofs.Past.{le_is, all_up}
use Rattle.template_order.proofs.order.is_past.Goals as goal

pub returns-then-keys-count-clause-later : goal.returns-then-keys-count-clause-later
returns-then-keys-count-clause-later c = λ yes.
    let last = c.in-Some.last.now in
    let k = c.args.key in
    let le : is_le (key_cmp last k) ≡ true =
    sym (le_is (nat_cmp last.0 k.0) (int_cmp last.1 k.1) (int_cmp last.2 k.2) (int_cmp last.3 k.3)) ∙ sym c.le.ensures ∙ yes in
    let is_last : last ≡ get_or c.args.keys.now (length c.args.keys.now - 1) k = c.in-Some.ensures.item.4 (omega arith) k in
    all_up c.args.keys.now k c.requires.sorted c.in-Some.ensures.item.3.0 (subst (λ q. is_le (key_cmp q k) ≡ true) is_last le)

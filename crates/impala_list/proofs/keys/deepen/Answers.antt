use Rattle.std.proofs.Common.{ℕ, ◌+◌, ◌*◌, List, sym, subst, ◌∙◌}
use Rattle.impala_list.specs.Keys.{AppendsDigits, AreKeys}
use Rattle.impala_list.proofs.Deepening.{keys_as, keys_more}
use Rattle.pattern_store.proofs.Lists.{written_over}
use Rattle.impala_list.proofs.keys.deepen.Goals as goal

pub returns : goal.returns
returns g c =
    let s = c.args.eroded.now in
    let cats = c.cats-cats.result in
    let old = c.args.keys in
    let next = c.in_ok-next.next in
    let room = c.in_ok-next.ensures in
    let new = c.append_digits.new.keys in
    let have = keys_as s c.args._depth old.bound next.bound old.keys.items next.keys.items c.requires.keys room.same room.below in
    let appends = subst (λ (l : List ℕ). AppendsDigits cats c.args.shown.now l new) c.deref_mut.ensures.value c.append_digits.ensures in
    let more = keys_more s c.positions.ensures.source c.args._depth c.requires.depth c.args.shown.now c.requires.shown next.keys.items next.bound have cats c.cats-cats.ensures new appends in
    let based = subst (λ n. AreKeys s (c.args._depth + 1) new (next.bound * n)) (sym c.from.ensures) more in
    subst (λ (l : List ℕ). AreKeys s (c.args._depth + 1) l (next.bound * c.from.result)) (sym (written_over next.keys.items new next.keys.len (c.append_digits.ensures.count ∙ c.deref_mut.ensures.len))) based

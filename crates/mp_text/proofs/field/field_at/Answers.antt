use Rattle.std.proofs.Common.{arith, ◌≡◌, ◌-◌, ◌+◌, suc, ap, sym, ◌∙◌, drop}
use Rattle.mp_text.specs.Fields.{fields_of}
use Rattle.mp_text.proofs.Items.{slice_get_over, slice_get_at, drop_next}
use Rattle.mp_text.proofs.field.field_at.Goals as goal

pub returns-in_err-behind : goal.returns-in_err-behind
returns-in_err-behind c =
    rw c.from_residual.ensures
    (sym (slice_get_over (fields_of c.args.text.now) (c.loop.counter - 1) (c.args.column - 1) (sym c.loop.invariant ∙ c.in_err-behind.ensures.none) (omega arith)))

pub loop-preserved : goal.loop-preserved
loop-preserved c =
    let fields = fields_of c.args.text.now in
    let more = drop_next fields (c.loop.counter - 1) _ _ (sym c.loop.invariant ∙ c.in_ok-behind.ensures.some) in
    let next : suc (c.loop.counter - 1) ≡ c.loop.counter + 1 - 1 = omega arith in
    sym (ap (λ n. drop n fields) (sym next) ∙ more)

pub returns-in_err-field : goal.returns-in_err-field
returns-in_err-field c =
    rw c.from_residual-in_err-field.ensures
    (sym (slice_get_over (fields_of c.args.text.now) (c.loop.counter - 1) (c.args.column - 1) (sym c.loop.invariant ∙ c.in_err-field.ensures.none) (omega arith)))

pub returns : goal.returns
returns c =
    let fields = fields_of c.args.text.now in
    let last : c.loop.counter - 1 ≡ c.args.column - 1 = omega arith in
    sym (slice_get_at fields (c.args.column - 1) _ _ (ap (λ n. drop n fields) (sym last) ∙ sym c.loop.invariant ∙ c.in_ok-field.ensures.some))

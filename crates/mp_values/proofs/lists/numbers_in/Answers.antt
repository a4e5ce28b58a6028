use Rattle.std.proofs.Common.{length, arith, ap, sym, ◌∙◌, Some}
use Rattle.std.proofs.lemmas.Bool.{eqb-true}
use Rattle.mp_text.specs.Fields.{fields_of}
use Rattle.mp_values.specs.Values.{number_in, all_read}
use Rattle.mp_values.proofs.Gathered.{few_over, few_none, few_all, read_none, read_end, behind}
use Rattle.mp_values.proofs.lists.numbers_in.Goals as goal

pub returns-then-is_full-clause-value : goal.returns-then-is_full-clause-value
returns-then-is_full-clause-value c =
    let full = eqb-true (length c.loop-field.numbers.items) 8 (sym c.is_full.ensures.value ∙ c.if-is_full.true) in
    let more = ap length c.in-Some.ensures.some in
    sym (few_over (number_in c.args.low c.args.high) c.args.text.now (omega (arith, full, more, c.loop-field.invariant.count)))

pub returns-in_default-number_in-clause-value : goal.returns-in_default-number_in-clause-value
returns-in_default-number_in-clause-value c =
    let fs = fields_of c.args.text.now in
    let at = ap (λ rest. behind c.loop-field.numbers.items (all_read (number_in c.args.low c.args.high) rest)) c.in-Some.ensures.some in
    let none = sym c.number_in.ensures.value ∙ c.in_default-number_in.is in
    sym (few_none (number_in c.args.low c.args.high) c.args.text.now (read_none (number_in c.args.low c.args.high) fs c.loop-field.numbers.items c.in-Some.field.now (fields_of c.in-Some.more.now) none (c.loop-field.invariant.reads ∙ at)))

pub returns-clause-value : goal.returns-clause-value
returns-clause-value c =
    let at = c.in_default.ensures.none in
    let fs = fields_of c.args.text.now in
    let items = c.loop-field.numbers.items in
    sym (few_all (number_in c.args.low c.args.high) c.args.text.now (Some items) (omega (arith, ap length at, c.loop-field.invariant.count, c.loop-field.invariant.few)) (read_end (number_in c.args.low c.args.high) fs items (fields_of c.loop-field.rest.now) at c.loop-field.invariant.reads))

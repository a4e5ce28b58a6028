use Rattle.std.proofs.Common.{length, arith, ap, sym, ◌∙◌, Some}
use Rattle.std.proofs.lemmas.Bool.{eqb-true}
use Rattle.mp_text.specs.Fields.{fields_of}
use Rattle.mp_values.specs.Values.{code_of, all_read}
use Rattle.mp_values.proofs.Gathered.{few_over, few_none, few_all, read_none, read_end, behind}
use Rattle.mp_values.proofs.lists.codes.Goals as goal

pub returns-then-is_full-clause-value : goal.returns-then-is_full-clause-value
returns-then-is_full-clause-value c =
    let full = eqb-true (length c.loop-field.codes.items) 8 (sym c.is_full.ensures.value ∙ c.if-is_full.true) in
    let more = ap length c.in-Some.ensures.some in
    sym (few_over code_of c.args.text.now (omega (arith, full, more, c.loop-field.invariant.count)))

pub returns-in_default-code-clause-value : goal.returns-in_default-code-clause-value
returns-in_default-code-clause-value c =
    let fs = fields_of c.args.text.now in
    let at = ap (λ rest. behind c.loop-field.codes.items (all_read code_of rest)) c.in-Some.ensures.some in
    let none = sym c.code.ensures.value ∙ c.in_default-code.is in
    sym (few_none code_of c.args.text.now (read_none code_of fs c.loop-field.codes.items c.in-Some.field.now (fields_of c.in-Some.more.now) none (c.loop-field.invariant.reads ∙ at)))

pub returns-clause-value : goal.returns-clause-value
returns-clause-value c =
    let at = c.in_default.ensures.none in
    let fs = fields_of c.args.text.now in
    let items = c.loop-field.codes.items in
    sym (few_all code_of c.args.text.now (Some items) (omega (arith, ap length at, c.loop-field.invariant.count, c.loop-field.invariant.few)) (read_end code_of fs items (fields_of c.loop-field.rest.now) at c.loop-field.invariant.reads))

use Rattle.std.proofs.Common.{rules, ◌≡◌, true}
use Rattle.ti_scan.specs.Window.{fits_somewhere}
use Rattle.ti_scan.proofs.Spans.{nothing_fits, first-le-last, spans}
use Rattle.ti_scan.proofs.margins.span_of.Goals as goal

pub returns-then-not-is_anywhere_inside : goal.returns-then-not-is_anywhere_inside
returns-then-not-is_anywhere_inside c = nothing_fits c.args.margins c.args.shape (search rules)

pub overflow_sub-result : goal.overflow_sub-result
overflow_sub-result c =
    let some : fits_somewhere c.args.margins c.args.shape ≡ true = search rules in
    let order = first-le-last c.args.margins c.args.shape c.first_of.result c.last_of.result some c.first_of.ensures c.last_of.ensures.last in
    rw (c.first.view_is, c.last.view_is) order

pub returns : goal.returns
returns c =
    let some : fits_somewhere c.args.margins c.args.shape ≡ true = search rules in
    rw (c.first.view_is, c.last.view_is)
    (spans c.args.margins c.args.shape c.first_of.result c.last_of.result some c.first_of.ensures c.last_of.ensures.last c.last_of.ensures.inside)

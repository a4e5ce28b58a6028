use Rattle.std.proofs.Common.{ap, sym, ◌∙◌, subst}
use Rattle.std.proofs.lemmas.Result.{err_from_is_err_and}
use Rattle.gslib_grid.specs.Table.{Front, Tells, ended, wanted_of}
use Rattle.gslib_grid.specs.Steps.{with_line}
use Rattle.gslib_grid.specs.declared.want.Wanted.{Wanted}
use Rattle.gslib_grid.proofs.Fronts.{HasRead, nothing_read, more_read, all_read, tells_read}
use Rattle.gslib_grid.proofs.read.read_table.Goals as goal

pub loop-line-init : goal.loop-line-init
loop-line-init c =
    let want = c.args.want.now in
    let codes = c.args.codes.now in
    let bytes = c.args.bytes.now in
    subst (λ (f : Front). HasRead (wanted_of want) codes bytes f bytes) (sym c.new-progress.ensures) (nothing_read (wanted_of want) codes bytes)

pub returns-in_err-take_line : goal.returns-in_err-take_line
returns-in_err-take_line c =
    let p = err_from_is_err_and c.from_residual-in_err-take_line.result c.from_residual-in_err-take_line.ensures.1 in
    let codes = c.args.codes.now in
    let front = c.loop-line.progress in
    let line = c.in-Some.line.now in
    let error = c.in_err-take_line.field-0.0 in
    let told : Tells error (with_line (wanted_of c.args.want.now) codes front line) = subst (λ (w : Wanted). Tells error (with_line w codes front line)) c.of-wanted.ensures c.in_err-take_line.ensures.fault in
    rw (p.1, p.2) (tells_read c.args.want.now codes c.args.bytes.now c.loop-line.rest.now c.in-Some.behind.now line front error c.loop-line.invariant c.in-Some.ensures.lines told)

pub loop-line-preserved : goal.loop-line-preserved
loop-line-preserved c =
    let want = c.args.want.now in
    let codes = c.args.codes.now in
    let front = c.loop-line.progress in
    let line = c.in-Some.line.now in
    let told = ap (λ (w : Wanted). with_line w codes front line) (sym c.of-wanted.ensures) ∙ c.in_ok-take_line.ensures.ok in
    more_read (wanted_of want) codes c.args.bytes.now c.loop-line.rest.now c.in-Some.behind.now line front c.take_line.new.self c.loop-line.invariant c.in-Some.ensures.lines told

pub returns-in_err-end : goal.returns-in_err-end
returns-in_err-end c =
    let p = err_from_is_err_and c.from_residual-in_err-end.result c.from_residual-in_err-end.ensures.1 in
    let over = c.in_default.ensures.none in
    let told = all_read c.args.want.now c.args.codes.now c.args.bytes.now c.loop-line.rest.now c.loop-line.progress c.loop-line.invariant over ∙ ap (λ (w : Wanted). ended w c.loop-line.progress) (sym c.of-wanted.ensures) in
    rw (p.1, p.2) (told ∙ sym c.in_err-end.ensures)

pub returns : goal.returns
returns c =
    let over = c.in_default.ensures.none in
    all_read c.args.want.now c.args.codes.now c.args.bytes.now c.loop-line.rest.now c.loop-line.progress c.loop-line.invariant over
    ∙ ap (λ (w : Wanted). ended w c.loop-line.progress) (sym c.of-wanted.ensures) ∙ sym c.in_ok-end.ensures

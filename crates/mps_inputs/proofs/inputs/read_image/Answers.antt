use Rattle.std.proofs.Common.{◌∙◌, ap, sym, subst, Result}
use Rattle.std.proofs.lemmas.Result.{err_from_is_err_and}
use Rattle.gslib_grid.specs.declared.row.Table.{Table}
use Rattle.mp_outside.specs.Contents.{Held}
use Rattle.mp_params.specs.Params.{ParamsValue}
use Rattle.mps_inputs.specs.Answers.{IsInputFault}
use Rattle.mps_inputs.specs.Inputs.{codes_in, image_in, image_with, read_as, wanted_image}
use Rattle.mps_inputs.specs.Tables.{table_in}
use Rattle.mps_inputs.specs.declared.fault.Fault.{Fault}
use Rattle.mps_inputs.proofs.TablePieces.{given_by, refused_by}
use Rattle.mps_inputs.proofs.inputs.read_image.Goals as goal

pub returns-in_err-table-clause-fault : goal.returns-in_err-table-clause-fault
unfolding image_in
returns-in_err-table-clause-fault g c =
    let before = g.F.Files.seen c.args.files.now in
    let now = g.F.Files.seen c.read_table_file.new.files in
    let p = c.args.parameters.now in
    let name = c.as_str.ensures.text ∙ ap (λ (q : ParamsValue). q.image) c.parameters.view_is in
    let e = err_from_is_err_and c.from_residual.result c.from_residual.ensures.1 in
    rw (e.1, e.2)
    (refused_by (table_in (wanted_image p) (codes_in p)) (image_with p) p.image before now c.in_err-table.field-0.0
    (subst (λ (outcome : Held → Result Table Fault). IsInputFault outcome before now c.in_err-table.field-0.0)
    (λ i. read_as (table_in (c.wanted_image.ensures.want i) (c.distinct_codes.ensures.codes i)) (name i)) c.in_err-table.ensures.fault))

pub returns-clause-read : goal.returns-clause-read
unfolding image_in
returns-clause-read g c =
    let before = g.F.Files.seen c.args.files.now in
    let p = c.args.parameters.now in
    let name = c.as_str.ensures.text ∙ ap (λ (q : ParamsValue). q.image) c.parameters.view_is in
    given_by (table_in (wanted_image p) (codes_in p)) (image_with p) p.image before c.in_ok-table.table c.in_ok-image_of.field-0
    (λ told. (λ i. read_as (table_in (sym c.wanted_image.ensures.want i) (sym c.distinct_codes.ensures.codes i)) (sym name i) before.held) ∙ c.in_ok-table.ensures.read told)
    c.in_ok-image_of.ensures.given

use Rattle.std.proofs.Common.{ap, sym, ◌∙◌, Result, Ok}
use Rattle.std.proofs.lemmas.Result.{err_from_is_err_and}
use Rattle.hard_data.specs.declared.points.Placed.{Placed}
use Rattle.mp_outside.specs.Contents.{Held}
use Rattle.mp_text.specs.Chain.{◌>>=◌}
use Rattle.mps_inputs.specs.Inputs.{points_of, with_points}
use Rattle.mps_inputs.specs.declared.fault.Fault.{Fault}
use Rattle.mps_inputs.proofs.Reading.{first_refused}
use Rattle.mps_inputs.proofs.inputs.read_behind_image.Goals as goal

pub returns-clause-read : goal.returns-clause-read
returns-clause-read g c = λ told.
    ap (λ (r : Result Placed Fault). r >>= with_points c.args.parameters c.args.image) (c.in_ok-points.ensures.read told)
    ∙ (λ i. Ok (record { parameters = c.args.parameters; codes = sym c.requires.codes i; image = c.args.image; points = c.in_ok-points.points }))

pub returns-in_err-points-clause-fault : goal.returns-in_err-points-clause-fault
returns-in_err-points-clause-fault g c =
    let before = g.F.Files.seen c.args.files.now in
    let now = g.F.Files.seen c.read_points.new.files in
    let p = c.args.parameters in
    let e = err_from_is_err_and c.from_residual.result c.from_residual.ensures.1 in
    rw (e.1, e.2)
    (first_refused (points_of p p.points) (λ (points : Placed) (held : Held). with_points p c.args.image points) before now now c.in_err-points.field-0.0 c.in_err-points.ensures.fault)

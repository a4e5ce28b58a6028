use Rattle.std.proofs.lemmas.Result.{err_from_is_err_and}
use Rattle.mps_inputs.specs.Inputs.{image_in, inputs_with, read_as}
use Rattle.mps_inputs.proofs.Reading.{first_refused, one_file, reads_through, then_accepted, then_refused}
use Rattle.mps_inputs.proofs.inputs.read_tables.Goals as goal

pub returns-clause-read : goal.returns-clause-read
returns-clause-read g c =
    let before = g.F.Files.seen c.args.files.now in
    let mid = g.F.Files.seen c.read_image.new.files in
    let now = g.F.Files.seen c.read_behind_image.new.files in
    let p = c.args.parameters in
    then_accepted (read_as (image_in p) p.image) (inputs_with p) before mid now c.in_ok-image.image c.in_ok-image.ensures.read c.in_ok-image.ensures.only.tells_same c.in_ok-image.ensures.only.held_same
    c.read_behind_image.result c.read_behind_image.ensures.read

pub returns-clause-fault : goal.returns-clause-fault
returns-clause-fault g c =
    let before = g.F.Files.seen c.args.files.now in
    let mid = g.F.Files.seen c.read_image.new.files in
    let now = g.F.Files.seen c.read_behind_image.new.files in
    let p = c.args.parameters in
    then_refused (read_as (image_in p) p.image) (inputs_with p) before mid now c.in_ok-image.image c.in_ok-image.ensures.read c.in_ok-image.ensures.only.tells_same c.in_ok-image.ensures.only.held_same
    (one_file (image_in p) p.image) c.in_ok-image.ensures.only.reads_later c.read_behind_image.result c.read_behind_image.ensures.fault

pub returns-clause-only : goal.returns-clause-only
returns-clause-only g c =
    reads_through (g.F.Files.seen c.args.files.now) (g.F.Files.seen c.read_image.new.files) (g.F.Files.seen c.read_behind_image.new.files) c.in_ok-image.ensures.only c.read_behind_image.ensures.only

pub returns-in_err-image-clause-fault : goal.returns-in_err-image-clause-fault
returns-in_err-image-clause-fault g c =
    let before = g.F.Files.seen c.args.files.now in
    let now = g.F.Files.seen c.read_image.new.files in
    let p = c.args.parameters in
    let e = err_from_is_err_and c.from_residual.result c.from_residual.ensures.1 in
    rw (e.1, e.2)
    (first_refused (read_as (image_in p) p.image) (inputs_with p) before now now c.in_err-image.field-0.0 c.in_err-image.ensures.fault)

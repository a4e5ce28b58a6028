use Rattle.std.proofs.lemmas.Result.{err_from_is_err_and}
use Rattle.mps_inputs.specs.Inputs.{parameters_in, read_as, tables_of}
use Rattle.mps_inputs.proofs.Reading.{first_refused, one_file, reads_through, then_accepted, then_refused}
use Rattle.mps_inputs.proofs.inputs.read_inputs.Goals as goal

pub returns-clause-read : goal.returns-clause-read
returns-clause-read g c =
    let before = g.F.Files.seen c.args.files.now in
    let mid = g.F.Files.seen c.read_parameters.new.files in
    let now = g.F.Files.seen c.read_tables.new.files in
    then_accepted (read_as parameters_in c.args.name.now) tables_of before mid now c.in_ok-parameters.parameters c.in_ok-parameters.ensures.read c.in_ok-parameters.ensures.only.tells_same c.in_ok-parameters.ensures.only.held_same
    c.read_tables.result c.read_tables.ensures.read

pub returns-clause-fault : goal.returns-clause-fault
returns-clause-fault g c =
    let before = g.F.Files.seen c.args.files.now in
    let mid = g.F.Files.seen c.read_parameters.new.files in
    let now = g.F.Files.seen c.read_tables.new.files in
    then_refused (read_as parameters_in c.args.name.now) tables_of before mid now c.in_ok-parameters.parameters c.in_ok-parameters.ensures.read c.in_ok-parameters.ensures.only.tells_same c.in_ok-parameters.ensures.only.held_same
    (one_file parameters_in c.args.name.now) c.in_ok-parameters.ensures.only.reads_later c.read_tables.result c.read_tables.ensures.fault

pub returns-clause-only : goal.returns-clause-only
returns-clause-only g c =
    reads_through (g.F.Files.seen c.args.files.now) (g.F.Files.seen c.read_parameters.new.files) (g.F.Files.seen c.read_tables.new.files) c.in_ok-parameters.ensures.only c.read_tables.ensures.only

pub returns-in_err-parameters-clause-fault : goal.returns-in_err-parameters-clause-fault
returns-in_err-parameters-clause-fault g c =
    let before = g.F.Files.seen c.args.files.now in
    let now = g.F.Files.seen c.read_parameters.new.files in
    let e = err_from_is_err_and c.from_residual.result c.from_residual.ensures.1 in
    rw (e.1, e.2)
    (first_refused (read_as parameters_in c.args.name.now) tables_of before now now c.in_err-parameters.field-0.0 c.in_err-parameters.ensures.fault)

use Rattle.std.proofs.Common.{◌≡◌, [], subst, sym}
use Rattle.mp_base.specs.declared.codes.Codes.{Codes}
use Rattle.gslib_grid.specs.Table.{Tells, table_of}
use Rattle.mps_inputs.specs.Answers.{IsInputFault}
use Rattle.mps_inputs.specs.Inputs.{read_as}
use Rattle.mps_inputs.specs.Tables.{WasFedFile, table_in}
use Rattle.mps_inputs.proofs.TablePieces.{error_told, own_codes}
use Rattle.mps_inputs.proofs.tables.read_table_file.Goals as goal

pub returns-clause-fault : goal.returns-clause-fault
returns-clause-fault g c =
    let before = g.F.Files.seen c.args.files.now in
    let now = g.F.Files.seen c.feed_file.new.files in
    let first = c.in_ok-reader.reader in
    let same : first.codes ≡ c.args.codes = own_codes c.args.want c.args.codes first [] c.in_ok-reader.ensures.told c.in_ok-reader.ensures.fed in
    let file : WasFedFile c.args.want first.codes c.feed_file.new.reader before c.args.name.now = c.in_ok-feed_file.ensures.fed in
    let told : Tells c.in-Err.error (table_of c.args.want first.codes file.bytes) = c.in-Err.ensures.table c.args.want first.codes file.bytes file.fed in
    subst (IsInputFault (read_as (table_in c.args.want c.args.codes) c.args.name.now) before now) (sym c.fault_for.ensures)
    (error_told c.args.want c.args.codes c.args.name.now before now c.in-Err.error
    (λ here. (file.bytes, file.all here, subst (λ (codes : Codes). Tells c.in-Err.error (table_of c.args.want codes file.bytes)) same told)))

use Rattle.std.proofs.Common.{◌∙◌}
use Rattle.std.proofs.lemmas.Result.{err_from_is_err_and}
use Rattle.gslib_grid.proofs.Feeding.{taken_all, taken_error, taken_more}
use Rattle.gslib_grid.proofs.reader.TableReader.take_piece.Goals as goal

pub returns-in_err-take_part-clause-fault : goal.returns-in_err-take_part-clause-fault
returns-in_err-take_part-clause-fault c =
    let e = err_from_is_err_and c.from_residual.result c.from_residual.ensures.1 in
    rw (e.1, e.2)
    (taken_error c.args.self.now c.loop-part.self c.args.piece.now c.loop-part.rest.now c.in-Some.part.now c.in-Some.behind.now c.in_err-take_part.field-0.0 c.loop-part.invariant.taken c.in-Some.ensures.lines c.loop-part.invariant.untold c.in_err-take_part.ensures.fault)

pub loop-part-preserved : goal.loop-part-preserved
loop-part-preserved c =
    let untold = c.in_ok-take_part.ensures.told ∙ c.loop-part.invariant.untold in
    record {
      untold = untold;
      taken = taken_more c.args.self.now c.loop-part.self c.take_part.new.self c.args.piece.now c.loop-part.rest.now c.in-Some.part.now c.in-Some.behind.now c.loop-part.invariant.taken c.in-Some.ensures.lines c.loop-part.invariant.untold untold c.in_ok-take_part.ensures.ok;
    }

pub returns-clause-fed : goal.returns-clause-fed
returns-clause-fed c = taken_all c.args.self.now c.loop-part.self c.args.piece.now c.loop-part.rest.now c.loop-part.invariant.taken c.in_default.ensures.none

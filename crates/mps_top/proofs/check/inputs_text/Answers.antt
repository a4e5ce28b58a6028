use Rattle.mps_top.proofs.check.inputs_text.Goals as goal
use Rattle.mps_top.proofs.Outcomes.{check_refused}
use Rattle.std.proofs.lemmas.Result.{err_from_is_err_and}

pub returns-in_err-judged-clause-fault : goal.returns-in_err-judged-clause-fault
returns-in_err-judged-clause-fault c =
    let e = err_from_is_err_and c.from_residual.result c.from_residual.ensures.1 in
    rw (e.1, e.2)
    (check_refused c.args.inputs c.in_err-judged.field-0.0 c.in_err-judged.ensures.fault)

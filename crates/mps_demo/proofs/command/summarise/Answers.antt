use Rattle.std.proofs.Common.{◌≡◌, sym, ◌∙◌, ap, subst, ℕ, List, Result, Ok}
use Rattle.std.proofs.lemmas.Result.{err_from_is_err_and}
use Rattle.mp_text.specs.Chain.{◌>>=◌}
use Rattle.mps_inputs.specs.Answers.{Ends, seen}
use Rattle.mps_inputs.specs.Setup.{positions_of, setup_for}
use Rattle.mps_inputs.specs.declared.fault.Fault.{Fault}
use Rattle.mps_inputs.proofs.Ending.{refused_ends}
use Rattle.mps_inputs.proofs.Stages.{refused_next}
use Rattle.mps_demo.specs.Outcome.{reported, summary_of}
use Rattle.mps_demo.proofs.command.summarise.Goals as goal

pub returns : goal.returns
returns g c =
    let inputs = c.args.inputs in
    let out = g.O.Sink.seen c.args.out.now in
    let told = g.O.Sink.seen c.simulate.new.out in
    let judged = c.in_ok-judged.judged in
    let is = c.in_ok-judged.ensures.judged in
    let enough : positions_of (setup_for inputs) ≡ Ok judged.positions.items = ap positions_of (sym is.setup) ∙ is.positions in
    λ files.
    subst (λ (r : Result (List ℕ) Fault). Ends (r >>= reported inputs) (seen files out) (seen files told) c.simulate.result) (sym enough)
    (c.simulate.ensures files inputs is)

pub returns-in_err-judged : goal.returns-in_err-judged
returns-in_err-judged g c =
    let inputs = c.args.inputs in
    let fault = c.in_err-judged.field-0.0 in
    let e = err_from_is_err_and c.from_residual.result c.from_residual.ensures.1 in
    λ files.
    rw (e.1, e.2)
    (refused_ends (summary_of inputs) fault files (g.O.Sink.seen c.args.out.now)
    (refused_next (positions_of (setup_for inputs)) (reported inputs) fault c.in_err-judged.ensures.fault))

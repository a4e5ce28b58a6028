use Rattle.std.proofs.Common.{◌≡◌, sym, ◌∙◌, ap, subst, ℕ, List, Result, Ok}
use Rattle.std.proofs.lemmas.Result.{err_from_is_err_and}
use Rattle.mp_params.specs.Params.{ParamsValue}
use Rattle.mp_text.specs.Chain.{◌>>=◌}
use Rattle.seq_engine.specs.declared.setup.Setup.{Setup}
use Rattle.mps_inputs.specs.Answers.{Serves, seen}
use Rattle.mps_inputs.specs.Setup.{positions_of, setup_for}
use Rattle.mps_inputs.specs.declared.fault.Fault.{Fault}
use Rattle.mps_inputs.proofs.Ending.{refused_serves}
use Rattle.mps_inputs.proofs.Stages.{levels_same, refused_next}
use Rattle.mps_replay.specs.Outcome.{replay_of, replay_steps}
use Rattle.mps_replay.proofs.command.replay_inputs.Goals as goal

pub replay_judged-requires-after_bounds : goal.replay_judged-requires-after_bounds
replay_judged-requires-after_bounds g c = λ _ _.
    let judged = c.in_ok-judged.judged in
    let is = c.in_ok-judged.ensures.judged in
    record {
      setup = c.in_ok-judged.ensures.valid;
      cats = c.in_ok-judged.ensures.cats;
      codes = c.in_ok-judged.ensures.codes;
      levels = ap (λ (s : Setup). s.levels) is.setup ∙ levels_same c.args.inputs ∙ sym (ap (λ (p : ParamsValue). p.levels) is.parameters);
    }

pub returns : goal.returns
returns g c =
    let before = g.F.Files.seen c.args.files.now in
    let now = g.F.Files.seen c.replay_judged.new.files in
    let out = g.O.Sink.seen c.args.out.now in
    let told = g.O.Sink.seen c.replay_judged.new.out in
    let inputs = c.args.inputs in
    let judged = c.in_ok-judged.judged in
    let is = c.in_ok-judged.ensures.judged in
    let enough : positions_of (setup_for inputs) ≡ Ok judged.positions.items = ap positions_of (sym is.setup) ∙ is.positions in
    subst (λ (r : Result (List ℕ) Fault). Serves (λ held. r >>= λ positions. replay_steps c.args.schedule.now inputs held) (seen before out) (seen now told) c.replay_judged.result) (sym enough)
    (c.replay_judged.ensures inputs is)

pub returns-in_err-judged : goal.returns-in_err-judged
returns-in_err-judged g c =
    let inputs = c.args.inputs in
    let name = c.args.schedule.now in
    let fault = c.in_err-judged.field-0.0 in
    let e = err_from_is_err_and c.from_residual.result c.from_residual.ensures.1 in
    rw (e.1, e.2)
    (refused_serves (replay_of name inputs) fault (g.F.Files.seen c.args.files.now) (g.O.Sink.seen c.args.out.now)
    (λ held. refused_next (positions_of (setup_for inputs)) (λ (positions : List ℕ). replay_steps name inputs held) fault c.in_err-judged.ensures.fault))

use Rattle.std.proofs.Common.{◌≡◌, ◌++◌, sym, ◌∙◌, ap, subst, length}
use Rattle.mp_base.specs.declared.codes.Codes.{Codes}
use Rattle.mp_base.specs.Grid.{Field}
use Rattle.mp_params.specs.Params.{ParamsValue}
use Rattle.seq_engine.specs.Realisation.{realised}
use Rattle.spec_steps.specs.Answers.{NamesCategories}
use Rattle.trace_out.specs.Trace.{trace_text}
use Rattle.mps_replay.specs.Trace.{Replaying, trace_in}
use Rattle.mps_replay.specs.declared.kept.Trace.{Trace}
use Rattle.mps_replay.proofs.Levels.{trace_is, traced}
use Rattle.mps_replay.proofs.command.trace_text.Goals as goal

pub unreachable-requires : goal.unreachable-requires
unreachable-requires g c =
    let judged = c.args.judged.now in
    let s = c.args.schedule.now in
    let window = c.parameters.inside.window in
    let all = traced judged.setup s judged.parameters.levels window c.new-replayer.result c.run_realisation.new.runner c.new-replayer.ensures c.requires.judged.levels c.requires.schedule.level_some c.requires.schedule.level c.in-Ok.ensures.ran in
    c.in_default-into_trace.not-Some (trace_in judged.setup s window) (c.into_trace.ensures ∙ ap (λ (r : Replaying). r.trace) all.kept)

pub push_trace-requires-clause-as_many : goal.push_trace-requires-clause-as_many
push_trace-requires-clause-as_many g c =
    let judged = c.args.judged.now in
    let s = c.args.schedule.now in
    let window = c.parameters.inside.window in
    let after = c.run_realisation.new.runner in
    let all = traced judged.setup s judged.parameters.levels window c.new-replayer.result after c.new-replayer.ensures c.requires.judged.levels c.requires.schedule.level_some c.requires.schedule.level c.in-Ok.ensures.ran in
    let trace : c.in-Some.trace ≡ trace_in judged.setup s window = trace_is c.into_trace.result c.in-Some.trace judged.setup s window after c.in-Some.is c.into_trace.ensures all in
    ap length c.as_slice.ensures ∙ ap (λ (t : Trace). length t.answers) trace ∙ all.told.count

pub push_trace-requires-clause-named : goal.push_trace-requires-clause-named
push_trace-requires-clause-named g c =
    let judged = c.args.judged.now in
    let s = c.args.schedule.now in
    let window = c.parameters.inside.window in
    let after = c.run_realisation.new.runner in
    let all = traced judged.setup s judged.parameters.levels window c.new-replayer.result after c.new-replayer.ensures c.requires.judged.levels c.requires.schedule.level_some c.requires.schedule.level c.in-Ok.ensures.ran in
    let trace : c.in-Some.trace ≡ trace_in judged.setup s window = trace_is c.into_trace.result c.in-Some.trace judged.setup s window after c.in-Some.is c.into_trace.ensures all in
    let answers : c.as_slice.result.now ≡ (trace_in judged.setup s window).answers = c.as_slice.ensures ∙ ap (λ (t : Trace). t.answers) trace in
    let cats : judged.setup.cats ≡ length judged.codes.categories = c.requires.judged.cats ∙ sym (ap (λ (k : Codes). length k.categories) c.requires.judged.codes) in
    subst (λ n. NamesCategories n c.as_slice.result.now) cats (subst (NamesCategories judged.setup.cats) (sym answers) all.told.named)

pub returns : goal.returns
returns g c =
    let judged = c.args.judged.now in
    let s = c.args.schedule.now in
    let inside = c.parameters.inside.window in
    let window : inside ≡ judged.parameters.window = ap (λ (p : ParamsValue). p.window) c.parameters.view_is in
    let after = c.run_realisation.new.runner in
    let all = traced judged.setup s judged.parameters.levels inside c.new-replayer.result after c.new-replayer.ensures c.requires.judged.levels c.requires.schedule.level_some c.requires.schedule.level c.in-Ok.ensures.ran in
    let trace : c.in-Some.trace ≡ trace_in judged.setup s judged.parameters.window =
    trace_is c.into_trace.result c.in-Some.trace judged.setup s inside after c.in-Some.is c.into_trace.ensures all ∙ ap (trace_in judged.setup s) window in
    let answers : c.as_slice.result.now ≡ (trace_in judged.setup s judged.parameters.window).answers = c.as_slice.ensures ∙ ap (λ (t : Trace). t.answers) trace in
    let categories : judged.codes.categories ≡ judged.parameters.categories = ap (λ (k : Codes). k.categories) c.requires.judged.codes in
    let cells : c.in-Ok.grid.cells ≡ (realised judged.setup s.realisation).cells = ap (λ (f : Field). f.cells) c.in-Ok.ensures.grid in
    c.in_ok-push_trace.ensures.text ∙ (λ i. c.new-text.ensures.items i ++ trace_text (categories i) s (answers i) (trace i).log (cells i))

use Rattle.mps_scan.specs.Outcome.{scan_done}
use Rattle.mps_inputs.specs.Setup.{positions_of, setup_for}
use Rattle.mps_inputs.proofs.Stages.{enough_positions, levels_same, refused_next}
use Rattle.std.specs.Prelude.{List, ℕ}
use Rattle.std.proofs.lemmas.Result.{err_from_is_err_and}
use Rattle.std.proofs.Common.{◌≡◌, ap, sym, ◌∙◌, subst, length, arith}
use Rattle.seq_engine.specs.declared.setup.Setup.{Setup}
use Rattle.ti_scan.specs.Event.{IsEvent}
use Rattle.mps_scan.proofs.Scanning.{template_same}
use Rattle.mps_scan.proofs.command.event_text.Goals as goal

pub level_text-requires-clause-enough : goal.level_text-requires-clause-enough
level_text-requires-clause-enough g c = λ _ _.
    let judged = c.in_ok-judged.judged in
    let levels : judged.setup.levels ≡ c.args.inputs.parameters.levels = ap (λ (s : Setup). s.levels) c.in_ok-judged.ensures.judged.setup ∙ levels_same c.args.inputs in
    enough_positions judged.setup judged.positions.items c.args.level c.in_ok-judged.ensures.judged.positions c.requires.some (omega (arith, c.requires.most, levels))

pub level_text-requires-clause-event : goal.level_text-requires-clause-event
level_text-requires-clause-event g c = λ _ _.
    subst (λ n. IsEvent n c.args.event.now) (sym (ap (λ (s : Setup). length s.template.vectors) c.in_ok-judged.ensures.judged.setup ∙ template_same c.args.inputs)) c.requires.event

pub returns-in_err-judged-clause-fault : goal.returns-in_err-judged-clause-fault
returns-in_err-judged-clause-fault g c =
    let e = err_from_is_err_and c.from_residual.result c.from_residual.ensures.1 in
    rw (e.1, e.2)
    (refused_next (positions_of (setup_for c.args.inputs)) (λ (positions : List ℕ). scan_done c.args.inputs c.args.level c.args.event.now) c.in_err-judged.field-0.0 c.in_err-judged.ensures.fault)

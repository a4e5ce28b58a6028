use Rattle.std.proofs.Common.{◌≡◌, ◌+◌, ◌≤◌, Ok, [], Some, None, ◌∷◌, List, ℕ, map, length, drop, arith, ap, subst, sym, ◌∙◌}
use Rattle.std.proofs.lemmas.List.{length-drop, take_all}
use borrow.Author.Count.{below_more}
use Rattle.mp_params.specs.Lines.{settings_in, setting_of, fault_at, line_fault}
use Rattle.mp_text.specs.Lines.{line_texts, text_of}
use Rattle.std.specs.Prelude.{All}
use Rattle.mp_params.specs.Whole.{IsRead}
use Rattle.mp_params.proofs.Wholes.{if_read, read_more}
use Rattle.mp_params.proofs.Faults.{IsNext, next_at, fault_next, settings_next, settings_err, settings_ok, unless_ok, unless_err}
use Rattle.mp_params.proofs.settings.settings.Goals as goal

pub returns-in-Err-clause-value : goal.returns-in-Err-clause-value
returns-in-Err-clause-value c =
    let lines = line_texts c.args.file.now in
    let n = c.loop-line.number in
    let line = c.line_text.result.now in
    let rest = line_texts c.in-Some.more.now in
    let inv = c.loop-line.invariant in
    let here : line_texts c.loop-line.rest.now ≡ line ∷ rest = ap (map text_of) c.in-Some.ensures.lines ∙ ap (λ (says : List ℕ). says ∷ rest) (sym c.line_text.ensures) in
    let next : IsNext lines n line rest [] = next_at lines n line rest [] (inv.rest ∙ here) in
    let earlier = c.deref.result.now in
    let fault : line_fault (n + 1) earlier line ≡ Some c.in-Err.fault = unless_err _ (setting_of line) _ (sym c.judged.ensures.value ∙ c.in-Err.is) in
    settings_err lines n c.in-Err.fault next.within inv.clean (fault_next lines n line rest earlier next (c.deref.ensures.value ∙ inv.settings) ∙ fault)

pub loop-line-preserved : goal.loop-line-preserved
loop-line-preserved c =
    let lines = line_texts c.args.file.now in
    let n = c.loop-line.number in
    let line = c.line_text.result.now in
    let rest = line_texts c.in-Some.more.now in
    let inv = c.loop-line.invariant in
    let here : line_texts c.loop-line.rest.now ≡ line ∷ rest = ap (map text_of) c.in-Some.ensures.lines ∙ ap (λ (says : List ℕ). says ∷ rest) (sym c.line_text.ensures) in
    let next : IsNext lines n line rest [] = next_at lines n line rest [] (inv.rest ∙ here) in
    let earlier = c.deref.result.now in
    let both = unless_ok (line_fault (n + 1) earlier line) (setting_of line) c.in-Ok.setting (sym c.judged.ensures.value ∙ c.in-Ok.is) in
    record {
      rest = next.rest;
      settings = c.in_ok-add-in-Ok.ensures ∙ settings_next lines n line rest c.loop-line.settings.items c.in-Ok.setting next inv.settings both.1;
      clean = below_more (λ k. fault_at lines k ≡ None) n inv.clean (fault_next lines n line rest earlier next (c.deref.ensures.value ∙ inv.settings) ∙ both.0);
      read = subst (All IsRead) (sym c.in_ok-add-in-Ok.ensures) (read_more c.loop-line.settings.items c.in-Ok.setting inv.read (if_read _ c.in-Ok.setting c.in-Ok.is c.judged.ensures.read));
      few = omega (arith, inv.few, c.in-Some.ensures.less);
    }

pub returns-clause-value : goal.returns-clause-value
returns-clause-value c =
    let lines = line_texts c.args.file.now in
    let n = c.loop-line.number in
    let inv = c.loop-line.invariant in
    let none : drop n lines ≡ [] = inv.rest ∙ ap (map text_of) c.in_default.ensures.none in
    let past : length lines ≤ n = omega (arith, ap length none, length-drop n lines) in
    settings_ok lines (λ k below. inv.clean k (omega arith)) ∙ ap Ok (ap settings_in (sym (take_all n lines past)) ∙ sym inv.settings)

use Rattle.std.proofs.Common.{◌≡◌, Bool, true, false, cond, ◌&&◌, List, ℕ, Some, None, refl, ap, sym, ◌∙◌}
use Rattle.std.specs.List.{after_first, before_first, list_all, list_any}
use Rattle.std.proofs.lemmas.Bool.{and_from}
use Rattle.mp_text.specs.Fields.{trimmed}
use Rattle.mp_text.proofs.Places.{any_past, any_within}
use Rattle.mp_values.specs.Values.{is_line_byte}
use Rattle.mp_params.specs.Lines.{name_and_text, is_equals, is_key_text, is_setting}
use Rattle.mp_params.proofs.settings.setting_in.Goals as goal

and_false : (a : Bool) → (a && false) ≡ false
and_false true = refl
and_false false = refl

-- a line without `=` is no setting
no_setting : (line : List ℕ) → list_any is_equals line ≡ false → is_setting line ≡ false
no_setting line none =
    ap (λ t. (list_all is_line_byte line && t) && is_key_text (name_and_text line).name) none ∙ ap (λ t. t && is_key_text (name_and_text line).name) (and_false (list_all is_line_byte line))

pub returns-in_default : goal.returns-in_default
returns-in_default c =
    let line = c.args.line.now in
    sym (ap (λ b. cond b (Some (name_and_text line)) None) (no_setting line (any_past is_equals line c.in_default.ensures.none)))

pub returns-then-is_key_text : goal.returns-then-is_key_text
returns-then-is_key_text c =
    let line = c.args.line.now in
    let name : c.trimmed.result.now ≡ trimmed (before_first is_equals line) = c.trimmed.ensures ∙ ap trimmed c.in-Some.ensures.before in
    let text : c.trimmed-2.result.now ≡ trimmed (after_first is_equals line) = c.trimmed-2.ensures ∙ ap trimmed c.in-Some.ensures.behind in
    let bytes : list_all is_line_byte line ≡ true = sym c.are_line_bytes.ensures ∙ c.if-are_line_bytes.true in
    let equals : list_any is_equals line ≡ true = any_within is_equals line 0 c.in-Some.ensures.some in
    let key : is_key_text (name_and_text line).name ≡ true = ap is_key_text (sym name) ∙ sym c.is_key_text.ensures ∙ c.if-is_key_text.true in
    let setting : is_setting line ≡ true = and_from _ _ (and_from _ _ bytes equals) key in
    let same : Some (record { name = c.trimmed.result.now; text = c.trimmed-2.result.now }) ≡ Some (name_and_text line) = λ i. Some (record { name = name i; text = text i }) in
    same ∙ sym (ap (λ b. cond b (Some (name_and_text line)) None) setting)

-- The lines of keys, one after another.
use Rattle.std.proofs.Common.{◌≡◌, ℕ, ◌+◌, ◌<◌, List, [], ◌∷◌, ◌++◌, length, take, get_or, ap, sym, ◌∙◌}
use Rattle.std.specs.List.{flat_map}
use Rattle.std.proofs.lemmas.List.{take_more}
use Rattle.std.proofs.lemmas.List.Elements.{filter_map-append}
use Rattle.std.proofs.lemmas.Grind.{flat_map-append}
use Rattle.mp_params.specs.declared.table.Key.{Key}
use Rattle.mp_params.specs.Params.{ParamsValue}
use Rattle.mp_params.specs.Printing.{ended_line, settings_for, setting_for, lines_text}

lines_append : (p : ParamsValue) (xs ys : List Key) → lines_text p (xs ++ ys) ≡ lines_text p xs ++ lines_text p ys
lines_append p xs ys = ap (flat_map ended_line) (filter_map-append (setting_for p) xs ys) ∙ flat_map-append ended_line (settings_for p xs) (settings_for p ys)

-- the line of one more key
pub lines_more : (p : ParamsValue) (keys : List Key) (i : ℕ) (k : Key) → i < length keys → lines_text p (take i keys) ++ lines_text p (get_or keys i k ∷ []) ≡ lines_text p (take (i + 1) keys)
lines_more p keys i k within = sym (lines_append p (take i keys) (get_or keys i k ∷ [])) ∙ ap (lines_text p) (sym (take_more keys i k within))

use Rattle.std.proofs.Common.{sym, ◌∙◌}
use Rattle.mp_values.proofs.NameBytes.{name_utf8}
use Rattle.mp_values.proofs.values.name.Goals as goal

pub returns-in_default : goal.returns-in_default
returns-in_default c = absurd (c.in_default.ensures.cases.0 (name_utf8 c.args.text.now (sym c.is_name.ensures ∙ c.if-not-is_name.false)))

use Rattle.std.proofs.Common.{◌≡◌, ◌-◌, drop}
use Rattle.mp_text.specs.Fields.{fields_of}
use Rattle.mp_text.proofs.field.field_at.Given as goal

abbrev pub invariant-loop : goal.invariant-loop
invariant-loop l = fields_of l.rest ≡ drop (l.counter - 1) (fields_of l.text)

use Rattle.std.proofs.Common.{◌≡◌, ◌+◌, ◌<◌, ◌≤◌, ℕ, None, length, take, drop}
use Rattle.std.specs.Prelude.{All}
use Rattle.mp_params.specs.Whole.{IsRead}
use Rattle.mp_params.specs.Lines.{settings_in, fault_at}
use Rattle.mp_text.specs.Lines.{line_texts}
use Rattle.mp_params.proofs.settings.settings.Given as goal

abbrev pub invariant-loop-line : goal.invariant-loop-line
invariant-loop-line l = record {
  rest : drop l.number (line_texts l.file) ≡ line_texts l.rest;
  settings : l.settings.items ≡ settings_in (take l.number (line_texts l.file));
  clean : (k : ℕ) → k < l.number → fault_at (line_texts l.file) k ≡ None;
  read : All IsRead l.settings.items;
  few : l.number + length l.rest ≤ length l.file;
}

abbrev pub decreases-loop-line : goal.decreases-loop-line
decreases-loop-line l = length l.rest

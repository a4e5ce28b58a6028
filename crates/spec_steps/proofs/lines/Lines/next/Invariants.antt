use Rattle.std.proofs.Common.{◌≡◌, ◌+◌, ◌≤◌, ◌^◌, length}
use Rattle.spec_steps.specs.Lines.{end_of, kept_in, lines_left}
use Rattle.spec_steps.proofs.lines.Lines.next.Given as goal

abbrev pub invariant-loop-line : goal.invariant-loop-line
invariant-loop-line l = record {
  kept : kept_in (lines_left l.self-inside.gone l.self-inside.rest.now) ≡ kept_in (lines_left l.initial.self-inside.gone l.initial.self-inside.rest.now);
  end : end_of (lines_left l.self-inside.gone l.self-inside.rest.now) ≡ end_of (lines_left l.initial.self-inside.gone l.initial.self-inside.rest.now);
  few : l.self-inside.gone + length l.self-inside.rest.now ≤ 2 ^ 22;
}

abbrev pub decreases-loop-line : goal.decreases-loop-line
decreases-loop-line l = length l.self-inside.rest.now

use Rattle.std.proofs.Common.{◌≡◌, ◌++◌, ◌≤◌, drop}
use Rattle.trace_out.specs.Trace.{steps_text}
use Rattle.trace_out.proofs.trace.push_steps.Given as goal

abbrev pub invariant-loop-index : goal.invariant-loop-index
invariant-loop-index l = record {
  few : l.committed ≤ l.index;
  text : l.to.items ++ steps_text l.codes l.committed (drop l.index l.steps) (drop l.index l.answers) ≡ l.initial.to.items ++ steps_text l.codes 0 l.steps l.answers;
}

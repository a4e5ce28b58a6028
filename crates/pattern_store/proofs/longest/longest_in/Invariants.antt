use Rattle.std.proofs.Common.{◌≡◌, ℕ, ◌+◌, ◌<◌, ◌≤◌, false, length, slice_index}
use Rattle.pattern_store.specs.Longest.{is_enough, rows_from}
use Rattle.pattern_store.proofs.longest.longest_in.Given as goal

abbrev pub invariant-loop-parts : goal.invariant-loop-parts
invariant-loop-parts l = record {
  within : l.len ≤ length l.event;
  from : l.least ≤ l.len;
  sums : (k : ℕ) → k < l.blocks.shown.cats → slice_index l.parts k ≡ rows_from l.blocks.shown l.blocks.counts l._groups l.event (l.len + 1) k;
  above : (m : ℕ) → l.len < m → m ≤ length l.event → is_enough l.blocks.shown l.blocks.counts l._groups l.event l.min m ≡ false;
}

abbrev pub decreases-loop-parts : goal.decreases-loop-parts
decreases-loop-parts l = l.len

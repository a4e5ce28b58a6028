use Rattle.std.proofs.Common.{◌≡◌, take}
use Rattle.mps_inputs.proofs.inputs.list_of.Given as goal

-- the codes so far
abbrev pub invariant-loop-code : goal.invariant-loop-code
invariant-loop-code l = l.listed.items ≡ take l.code-index l.codes

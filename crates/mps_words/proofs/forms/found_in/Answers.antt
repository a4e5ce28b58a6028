use Rattle.std.proofs.Common.{◌∙◌, [], ◌∷◌, inl, inr}
use Rattle.clap.specs.Kinds.{IsAmong, Kinds}
use Rattle.clap.specs.declared.error.kind.ErrorKind.{ErrorKind}
use Rattle.clap.proofs.WalkLemmas.{both}
use Rattle.mps_words.specs.Forms.{Fails}
use Rattle.mps_words.proofs.forms.found_in.Goals as goal

among_fails : (kind : ErrorKind) (kinds : Kinds) → IsAmong kind kinds → Fails kinds
among_fails kind [] h = absurd h
among_fails kind (k ∷ kinds) h = tt

pub returns-in-Ok : goal.returns-in-Ok
returns-in-Ok c = (c.in-Ok.ensures.kinds c.requires, (c.in-Ok.ensures.matches (both _ _ c.requires).0).0)

pub returns : goal.returns
returns c = elim (c.in-Err.ensures.kinds c.requires) [
  | inl memory ↦ absurd (c.in_default.not-OutOfMemory (c.kind.ensures ∙ memory))
  | inr kind ↦ among_fails _ _ kind
]

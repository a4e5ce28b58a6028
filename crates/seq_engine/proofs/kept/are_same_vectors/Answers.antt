use Rattle.std.proofs.Common.{rules}
use Rattle.std.proofs.lemmas.Slice.Eq.{slice_eq-Decides}
use Rattle.seq_engine.proofs.kept.are_same_vectors.Goals as goal

pub returns : goal.returns
returns c h = (slice_eq-Decides (λ a b. ((λ same. search rules), (λ same. search rules))) _ _ _ c.eq.ensures).0 h

use Rattle.std.proofs.Common.{subst}
use Rattle.std.specs.Prelude.{IsTrue}
use Rattle.mps_run.proofs.realisations.write_realisations.Goals as goal

pub fill_output-requires-clause-made : goal.fill_output-requires-clause-made
fill_output-requires-clause-made g c = λ told. c.in_ok-create_output.ensures.made (subst IsTrue c.in_ok-create_output.ensures.only.tells_same told)

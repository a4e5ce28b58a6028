use Rattle.std.proofs.Common.{sym, ◌∙◌}
use Rattle.mp_params.proofs.Wholes.{whole_from}
use Rattle.mp_params.proofs.reading.params.Goals as goal

pub judged-requires : goal.judged-requires
judged-requires c = whole_from c.args.settings.now c.requires (sym c.in-None.is ∙ c.first_absent.ensures)

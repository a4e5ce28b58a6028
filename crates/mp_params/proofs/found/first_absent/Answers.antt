use Rattle.std.proofs.Common.{◌∙◌}
use Rattle.std.specs.Prelude.{is_none}
use Rattle.mp_params.specs.Lines.{given}
use Rattle.mp_params.specs.Table.{key_name, keys, row_of}
use Rattle.mp_params.proofs.Wholes.{find_filter}
use Rattle.mp_params.proofs.found.first_absent.Goals as goal

pub returns : goal.returns
returns c = c.first_of_keys.ensures ∙ find_filter (λ k. is_none (given c.args.settings.now (key_name k))) (λ k. (row_of k).is_required) keys

use Rattle.std.proofs.Common.{length, ap, sym, ◌∙◌}
use Rattle.path_stream.proofs.Slots.{length-path_from}
use Rattle.path_stream.proofs.ranks.Ranks.len.Goals as goal

pub returns : goal.returns
returns c = sym (length-path_from c.self.inside.count c.self.inside.slots.items) ∙ ap length c.self.view_is

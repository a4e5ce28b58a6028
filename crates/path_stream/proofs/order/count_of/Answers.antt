use Rattle.std.proofs.Common.{◌≡◌, ◌≤◌, ◌<◌, ◌-◌, length, get_or, arith, ◌∙◌}
use Rattle.std.proofs.lemmas.Grind.{get_or_default_zero}
use Rattle.path_stream.proofs.Paths.{rising-at_least}
use Rattle.path_stream.proofs.order.count_of.Goals as goal

pub returns-then-count-gt0-clause-few : goal.returns-then-count-gt0-clause-few
returns-then-count-gt0-clause-few c =
    let within : length c.args.nodes.now - 1 < length c.args.nodes.now = omega arith in
    let is : c.last.inside.0 ≡ get_or c.args.nodes.now (length c.args.nodes.now - 1) 0 = c.last.view_is ∙ c.index-nodes-count.is ∙ get_or_default_zero c.args.nodes.now (length c.args.nodes.now - 1) c.index-nodes-count.result within in
    let least : length c.args.nodes.now - 1 ≤ get_or c.args.nodes.now (length c.args.nodes.now - 1) 0 = rising-at_least c.args.nodes.now c.requires (length c.args.nodes.now - 1) within in
    omega arith

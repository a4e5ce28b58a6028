use Rattle.template_order.specs.Template.{times}
use Rattle.template_order.proofs.Stretching.{offset_times, vector_same}
use Rattle.template_order.proofs.template.longer.Goals as goal

pub returns : goal.returns
returns c =
    let f = c.args.factor in
    let v = c.args.v in
    let near = c.requires.near in
    vector_same _ (times f v)
    (offset_times f v.dx c.requires.factor near.x)
    (offset_times f v.dy c.requires.factor near.y)
    (offset_times f v.dz c.requires.factor near.z)

use Rattle.std.proofs.Common.{◌≡◌, ◌∙◌, ap, map, arith}
use Rattle.std.specs.List.{range_with_len}
use Rattle.mps_demo.specs.Image.{centres_at, image_sides}
use Rattle.mps_demo.proofs.Growing.{one_more}
use Rattle.mps_demo.proofs.Sides.{wide}
use Rattle.mps_demo.proofs.image.columns_of.Goals as goal

pub loop-x-preserved : goal.loop-x-preserved
loop-x-preserved c = one_more (centres_at c.args.channels.now) c.loop-x.columns.items c.push.new.self.items c.of.result c.loop-x.x c.loop-x.invariant c.in_ok-push.ensures.items c.of.ensures

pub returns : goal.returns
returns c =
    let all : c.loop-x.x ≡ image_sides.nx = omega (arith, wide) in
    c.loop-x.invariant ∙ ap (λ n. map (centres_at c.args.channels.now) (range_with_len 0 n)) all

use Rattle.std.proofs.Common.{◌-◌, [], ◌∷◌, length, arith}
use Rattle.std.proofs.lemmas.List.{length-append}
use Rattle.std.proofs.Math.Seq.{take-length}
use Rattle.pattern_blocks.specs.Making.{number_at}
use Rattle.pattern_blocks.proofs.Planing.{kept_too, no_planes, plane_added}
use Rattle.pattern_blocks.proofs.planes.push_planes.Goals as goal

pub loop-bit-init : goal.loop-bit-init
loop-bit-init c = record {
  low = omega arith;
  more = omega arith;
  few = omega arith;
  kept = take-length c.args.words.now.items;
  numbers = no_planes c.args.words.now.items c.greatest_of-most.result (number_at c.args.numbers.now c.args.from c.args.step) (omega arith) c.greatest_of-most.ensures;
}

pub loop-bit-preserved : goal.loop-bit-preserved
loop-bit-preserved c =
    let start = length c.args.words.now.items in
    rw c.in_ok-push.ensures.items
    (record {
      low = omega (arith, c.loop-bit.invariant.low);
      more = omega (arith, c.loop-bit.invariant.more, length-append c.loop-bit.words.items (c.bit_marked-plane.result ∷ []));
      few = omega (arith, c.loop-bit.invariant.few, length-append c.loop-bit.words.items (c.bit_marked-plane.result ∷ []));
      kept = kept_too c.loop-bit.words.items c.args.words.now.items start c.bit_marked-plane.result c.loop-bit.invariant.more c.loop-bit.invariant.kept;
      numbers = plane_added c.loop-bit.words.items start c.loop-bit.bit (c.loop-bit.bit - 1) c.bit_marked-plane.result (number_at c.args.numbers.now c.args.from c.args.step) (omega arith) c.loop-bit.invariant.low c.bit_marked-plane.ensures c.loop-bit.invariant.numbers c.loop-bit.invariant.more;
    })

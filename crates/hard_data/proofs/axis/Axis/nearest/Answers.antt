use Rattle.std.proofs.Common.{◌≡◌, ◌∙◌, arith, ℤ, pos, ◌+ℤ◌, ◌*ℤ◌, to_z, of_z}
use Rattle.std.specs.Int.{int_div_euclid, w128}
use Rattle.std.proofs.lemmas.Int.{ints, to_z-of_z}
use Rattle.hard_data.specs.Points.{nearest_on, offset_on}
use Rattle.hard_data.proofs.Halves.{halved}
use Rattle.hard_data.proofs.axis.Axis.nearest.Goals as goal

pub returns-clause-value : goal.returns-clause-value
unfolding nearest_on
returns-clause-value c =
    let self = c.args.self in
    let offset = offset_on self c.args.coordinate in
    let bits = λ (z : ℤ). to_z w128 (of_z w128 z) in
    let shifted : bits (bits (pos 2 *ℤ bits c.offset.result) +ℤ bits c.from-size.result) ≡ pos 2 *ℤ offset +ℤ self.size = omega (arith, ints) in
    let width : bits (pos 2 *ℤ bits c.from-size.result) ≡ pos 2 *ℤ self.size = omega (arith, ints) in
    to_z-of_z w128 c.div_euclid.result (record { sfits = c.div_euclid.type_inv }) ∙ c.div_euclid.ensures ∙ (λ i. int_div_euclid (shifted i) (width i))

pub returns-clause-half : goal.returns-clause-half
unfolding nearest_on
returns-clause-half c = halved (offset_on c.args.self c.args.coordinate) c.args.self.size c.requires.size

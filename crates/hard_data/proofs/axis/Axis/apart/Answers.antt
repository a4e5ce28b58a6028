use Rattle.std.proofs.Common.{ap, sym, ◌∙◌, arith, rules, ℤ, unsigned_abs, subst, FitsSigned}
use Rattle.std.specs.Int.{w64, w128}
use Rattle.std.proofs.lemmas.Int.{to_z-of_z}
use Rattle.hard_data.specs.Points.{apart_on, nearest_on, offset_on}
use Rattle.hard_data.proofs.Halves.{bits, left_is}
use Rattle.hard_data.proofs.axis.Axis.apart.Goals as goal

pub overflow_sub-offset : goal.overflow_sub-offset
overflow_sub-offset c =
    let self = c.args.self in
    let size : FitsSigned w64 self.size = search rules in
    let left = left_is (offset_on self c.args.coordinate) (nearest_on self c.args.coordinate) self.size c.offset-offset.result c.nearest.result c.from.result c.offset-offset.ensures.few size c.requires.size c.nearest.ensures.half (record { sfits = c.nearest.type_inv }) c.offset-offset.ensures.value c.nearest.ensures.value c.from.ensures in
    subst (λ (z : ℤ). FitsSigned w128 z) (sym left.is) left.fits

pub returns-clause-value : goal.returns-clause-value
unfolding apart_on
returns-clause-value c =
    let self = c.args.self in
    let size : FitsSigned w64 self.size = search rules in
    let left = left_is (offset_on self c.args.coordinate) (nearest_on self c.args.coordinate) self.size c.offset-offset.result c.nearest.result c.from.result c.offset-offset.ensures.few size c.requires.size c.nearest.ensures.half (record { sfits = c.nearest.type_inv }) c.offset-offset.ensures.value c.nearest.ensures.value c.from.ensures in
    c.unsigned_abs.ensures.value ∙ ap (λ (z : ℤ). unsigned_abs (bits z)) left.is ∙ ap unsigned_abs (to_z-of_z w128 _ left.fits)

pub returns-clause-few : goal.returns-clause-few
returns-clause-few c =
    let self = c.args.self in
    let size : FitsSigned w64 self.size = search rules in
    let left = left_is (offset_on self c.args.coordinate) (nearest_on self c.args.coordinate) self.size c.offset-offset.result c.nearest.result c.from.result c.offset-offset.ensures.few size c.requires.size c.nearest.ensures.half (record { sfits = c.nearest.type_inv }) c.offset-offset.ensures.value c.nearest.ensures.value c.from.ensures in
    omega (arith, left.few, c.unsigned_abs.ensures.value ∙ ap (λ (z : ℤ). unsigned_abs (bits z)) left.is ∙ ap unsigned_abs (to_z-of_z w128 _ left.fits))

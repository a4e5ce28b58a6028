use Rattle.std.proofs.Common.{◌≡◌, ◌∙◌, sym, ap, subst}
use Rattle.mp_base.specs.Grid.{Field}
use Rattle.hard_data.specs.Points.{placed_of}
use Rattle.path_stream.specs.Words.{Place}
use Rattle.mps_inputs.specs.Inputs.{IsInputs, codes_in, frame_of}
use Rattle.mps_demo.specs.Image.{channels_of, image_of}
use Rattle.mps_demo.specs.Inputs.{demo_image, demo_inputs, demo_parameters}
use Rattle.mps_demo.specs.Wells.{wells_of}
use Rattle.mps_demo.proofs.Accepted.{accepted}
use Rattle.mps_demo.proofs.Sides.{sides_of_image}
use Rattle.mps_demo.proofs.inputs.draw_inputs.Goals as goal

pub draw_wells-requires-clause-sides : goal.draw_wells-requires-clause-sides
draw_wells-requires-clause-sides c = ap (λ (g : Field). g.sides) c.in_ok-image.ensures ∙ sides_of_image _

pub returns-clause-inputs : goal.returns-clause-inputs
unfolding demo_inputs
returns-clause-inputs c =
    let seed = c.args.seed in
    let p : c.in_ok-parameters.parameters ≡ demo_parameters seed = c.in_ok-parameters.ensures in
    let first : c.words_of-words.result.seed ≡ seed = ap (λ (place : Place). place.seed) c.words_of-words.ensures in
    let behind : c.draw_channels-channels.new.words.seed ≡ seed = ap (λ (place : Place). place.seed) c.draw_channels-channels.ensures.words ∙ first in
    let image : c.in_ok-image.image ≡ demo_image seed = c.in_ok-image.ensures ∙ ap image_of (c.as_slice.ensures.value ∙ c.draw_channels-channels.ensures.channels ∙ ap channels_of first) in
    let codes = c.codes_of-codes.ensures ∙ ap codes_in p in
    let frame = c.frame_of.ensures ∙ ap frame_of p in
    let rows : c.in_ok-rows.rows ≡ wells_of seed (demo_image seed) = c.in_ok-rows.ensures ∙ (λ i. wells_of (behind i) (image i)) in
    let points : c.in_ok-points.points ≡ placed_of (frame_of (demo_parameters seed)) (wells_of seed (demo_image seed)) = c.in_ok-points.ensures ∙ (λ i. placed_of (frame i) (rows i)) in
    λ i. record { parameters = p i; codes = codes i; image = image i; points = points i }

pub returns-clause-accepted : goal.returns-clause-accepted
returns-clause-accepted c = subst IsInputs (sym (returns-clause-inputs c)) (accepted c.args.seed)

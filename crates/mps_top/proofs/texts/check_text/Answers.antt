use Rattle.std.proofs.Common.{◌≡◌, ap, refl, ◌∙◌, ℕ, List, ◌++◌, append_assoc, codes}
use Rattle.mp_params.specs.Printing.{print_text}
use Rattle.realisation_out.specs.Report.{level_lines, points_line}
use Rattle.seq_engine.specs.declared.setup.Setup.{Setup}
use Rattle.mps_inputs.specs.Setup.{setup_for, setup_of}
use Rattle.mps_top.specs.Texts.{check_text, image_line}
use Rattle.mps_inputs.specs.declared.inputs.Inputs.{Inputs}
use Rattle.mps_top.proofs.texts.check_text.Goals as goal

joined : (a b c d e : List ℕ) → (((a ++ b) ++ c) ++ d) ++ e ≡ a ++ (b ++ (c ++ (d ++ e)))
joined a b c d e = simp append_assoc

image_of : (inputs : Inputs) → (setup_for inputs).image ≡ inputs.image
unfolding setup_of
image_of inputs = refl

pub returns : goal.returns
unfolding check_text
returns c =
    let judged = c.args.judged.now in
    let printed = print_text judged.parameters in
    let image = image_line judged.setup.image in
    let points = points_line judged.rows judged.used judged.skipped in
    let levels = level_lines judged.parameters.grid judged.positions.items in
    let with_image : c.extend_from_slice.new.self.items ≡ printed ++ image =
    c.in_ok-extend_from_slice.ensures.items ∙ (λ i. c.in_ok-text.ensures.text i ++ (c.as_bytes.ensures.value ∙ c.in_ok-image_line.ensures) i) in
    let with_points : c.push_points_line.new.to.items ≡ (printed ++ image) ++ points = c.in_ok-push_points_line.ensures.text ∙ ap (λ (front : List ℕ). front ++ points) with_image in
    let with_levels : c.push_levels.new.to.items ≡ ((printed ++ image) ++ points) ++ levels = c.in_ok-push_levels.ensures ∙ ap (λ (front : List ℕ). front ++ levels) with_points in
    λ inputs is.
    let same : image_line judged.setup.image ≡ image_line inputs.image = ap image_line (ap (λ (s : Setup). s.image) is.setup ∙ image_of inputs) in
    c.in_ok-extend_from_slice-2.ensures.items ∙ ap (λ (front : List ℕ). front ++ codes "ok\n") with_levels ∙ joined printed image points levels (codes "ok\n")
    ∙ (λ i. print_text (is.parameters i) ++ (same i ++ (points_line (is.rows i) (is.used i) (is.skipped i) ++ (level_lines (is.parameters i).grid judged.positions.items ++ codes "ok\n"))))

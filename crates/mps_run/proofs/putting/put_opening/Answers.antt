use Rattle.std.proofs.Common.{◌≡◌, ◌++◌, ap, ◌∙◌, subst, ℕ, List}
use Rattle.mp_params.specs.Params.{ParamsValue}
use Rattle.realisation_out.specs.Text.{head_text}
use Rattle.realisation_out.specs.Pieces.{HasPut}
use Rattle.mps_run.proofs.PutTexts.{put_or_front}
use Rattle.mps_run.proofs.putting.put_opening.Goals as goal

pub returns-clause-put : goal.returns-clause-put
returns-clause-put g c =
    let p = c.args.parameters.now in
    let pieces = c.put.new.self in
    let files = g.F.Files.seen c.put.new.files in
    let made : c.deref.result.now ≡ head_text p.grid p.realisations p.seed =
    ◌∙◌ {A = List ℕ} c.deref.ensures.value
    (◌∙◌ {A = List ℕ} c.in_ok-push_head.ensures.text
    (◌∙◌ {A = List ℕ} (ap (λ (q : ParamsValue). c.new-opening.result.items ++ head_text q.grid q.realisations q.seed) c.parameters.view_is)
    (ap (λ (front : List ℕ). front ++ head_text p.grid p.realisations p.seed) c.new-opening.ensures.items))) in
    λ text put.
    put_or_front pieces files (text ++ head_text p.grid p.realisations p.seed) c.put.result c.put.ensures.told
    (subst (λ (opening : List ℕ). HasPut pieces files (text ++ opening)) made (c.put.ensures.put text put))

use Rattle.std.proofs.Common.{◌≡◌, [], ◌++◌, ap, sym, ◌∙◌, subst, List, ℕ, arith}
use Rattle.std.specs.Prelude.{IsSomeAnd}
use Rattle.std.proofs.lemmas.Result.{err_from_is_err_and}
use Rattle.realisation_out.specs.Pieces.{HasPut, IsFront, PiecesSeen}
use Rattle.realisation_out.specs.Text.{head_text}
use Rattle.mps_run.specs.Texts.{run_file}
use Rattle.mps_run.proofs.Fronts.{in_front, opening}
use Rattle.mps_run.proofs.PutTexts.{begun_put, front_later}
use Rattle.mps_run.proofs.realisations.put_file.Goals as goal

pub returns-in_err-put_opening-clause-whole : goal.returns-in_err-put_opening-clause-whole
returns-in_err-put_opening-clause-whole g c =
    let p = c.args.parameters.now in
    let s = c.args.setup.now in
    let before = g.F.Files.seen c.args.files.now in
    let files = g.F.Files.seen c.put_opening.new.files in
    let pieces = c.in_ok-pieces.pieces in
    let named : c.put_opening.new.pieces.name ≡ c.args.name.now = c.put_opening.ensures.name ∙ ap (λ (q : PiecesSeen). q.name) c.in_ok-pieces.ensures in
    let all = in_front p s 0 p.realisations (omega arith) in
    let e = err_from_is_err_and c.from_residual-in_err-put_opening.result c.from_residual-in_err-put_opening.ensures.1 in
    rw e.1
    (λ told.
    subst (λ (n : List ℕ). IsSomeAnd (files.held n) (IsFront (run_file p s))) named
    (front_later (files.held c.put_opening.new.pieces.name) (head_text p.grid p.realisations p.seed) all.0 (run_file p s)
    (ap (λ (t : List ℕ). t ++ all.0) (opening p) ∙ sym all.1)
    (c.in_err-put_opening.ensures.put [] (begun_put pieces c.args.name.now before c.in_ok-pieces.ensures c.requires.made) told)))

pub put_realisations-requires-clause-opening : goal.put_realisations-requires-clause-opening
put_realisations-requires-clause-opening g c =
    let p = c.args.parameters.now in
    let before = g.F.Files.seen c.args.files.now in
    let files = g.F.Files.seen c.put_opening.new.files in
    subst (λ (t : List ℕ). HasPut c.put_opening.new.pieces files t) (opening p)
    (c.in_ok-put_opening.ensures.put [] (begun_put c.in_ok-pieces.pieces c.args.name.now before c.in_ok-pieces.ensures c.requires.made))

use Rattle.std.proofs.Common.{◌≡◌, ◌+◌, ◌++◌, ap, sym, ◌∙◌, subst, arith, ℕ, List, length, length-append}
use Rattle.std.specs.Result.{result_err}
use Rattle.mp_outside.specs.Contents.{Appends}
use Rattle.realisation_out.specs.Pieces.{IsPut}
use Rattle.realisation_out.proofs.PiecesLemmas.{piece_put}
use Rattle.realisation_out.proofs.pieces.put_part.Goals as goal

pub returns-clause-put : goal.returns-clause-put
returns-clause-put g c =
    let kept = c.args.kept.now.items in
    let part = c.args.part.now in
    let before = (g.F.Files.seen c.args.files.now).held c.args.name.now in
    let now = (g.F.Files.seen c.append-appended.new.self).held c.args.name.now in
    let result = c.append-appended.result in
    let piece : c.as_slice.result.now ≡ kept ++ part = c.as_slice.ensures.value ∙ c.in_ok-extend_from_slice.ensures.items in
    let full : length kept + length part ≡ 8192 = omega (arith, ap length piece, length-append kept part, c.as_slice.ensures.len) in
    λ text told put.
    subst (λ (left : List ℕ). IsPut now left (result_err result) (text ++ part)) (sym {A = List ℕ} c.clear.ensures.items)
    (piece_put text kept part before now result put full
    (subst (λ (p : List ℕ). Appends before now p result) piece (c.append-appended.ensures.added told)))

use Rattle.std.proofs.Common.{◌≡◌, ◌≤◌, ◌+◌, ◌∷◌, ◌++◌, [], ap, sym, ◌∙◌, subst, List, ℕ, ℤ, arith}
use Rattle.std.proofs.lemmas.Result.{err_from_is_err_and}
use Rattle.mp_base.specs.declared.codes.Codes.{Codes}
use Rattle.mp_outside.specs.Seen.{OnlyWrites}
use Rattle.mp_params.specs.Params.{ParamsValue}
use Rattle.realisation_out.specs.Pieces.{HasPut}
use Rattle.realisation_out.specs.Text.{rows_text}
use Rattle.realisation_out.proofs.PiecesLemmas.{writes_through}
use Rattle.seq_engine.specs.Realisation.{realised}
use Rattle.mps_run.specs.Texts.{counts_of, file_text, realisations_to, run_file}
use Rattle.mps_run.proofs.Fronts.{counts_more, in_front, one_more}
use Rattle.mps_run.proofs.PutTexts.{front_later, has_front}
use Rattle.mps_run.proofs.realisations.put_realisations.Goals as goal

pub returns-in_err-counted-clause-put : goal.returns-in_err-counted-clause-put
returns-in_err-counted-clause-put g c =
    let p = c.args.parameters.now in
    let s = c.args.setup.now in
    let r = c.loop-realisation.realisation in
    let files = g.F.Files.seen c.put_realisation.new.files in
    let few : r + 1 ≤ p.realisations = omega (arith, c.loop-realisation-test.true, ap (λ (q : ParamsValue). q.realisations) c.parameters.view_is) in
    let same : c.args.codes.now.categories ≡ p.categories = ap (λ (codes : Codes). codes.categories) c.requires.codes in
    let before = file_text p (realisations_to s r) in
    let put = before ++ rows_text c.args.codes.now.categories (realised s r).cells in
    let more : put ≡ file_text p (realisations_to s (r + 1)) = ap (λ (categories : List ℤ). before ++ rows_text categories (realised s r).cells) same ∙ sym (one_more p s r) in
    let all = in_front p s (r + 1) p.realisations few in
    let e = err_from_is_err_and c.from_residual.result c.from_residual.ensures.1 in
    rw e.1
    (λ told.
    front_later (files.held c.put_realisation.new.pieces.name) put all.0 (run_file p s) (ap (λ (t : List ℕ). t ++ all.0) more ∙ sym all.1)
    (c.in_err-counted.ensures.put before c.loop-realisation.invariant.put told))

pub returns-in_err-counted-clause-only : goal.returns-in_err-counted-clause-only
returns-in_err-counted-clause-only g c =
    let mid = g.F.Files.seen c.loop-realisation.files in
    let now = g.F.Files.seen c.put_realisation.new.files in
    let given = c.loop-realisation.invariant in
    writes_through c.args.pieces.now.name (g.F.Files.seen c.args.files.now) mid now given.only (subst (λ (n : List ℕ). OnlyWrites n mid now) given.name c.put_realisation.ensures.only)

pub returns-in_err-push-clause-put : goal.returns-in_err-push-clause-put
returns-in_err-push-clause-put g c =
    let p = c.args.parameters.now in
    let s = c.args.setup.now in
    let r = c.loop-realisation.realisation in
    let pieces = c.put_realisation.new.pieces in
    let files = g.F.Files.seen c.put_realisation.new.files in
    let few : r + 1 ≤ p.realisations = omega (arith, c.loop-realisation-test.true, ap (λ (q : ParamsValue). q.realisations) c.parameters.view_is) in
    let same : c.args.codes.now.categories ≡ p.categories = ap (λ (codes : Codes). codes.categories) c.requires.codes in
    let before = file_text p (realisations_to s r) in
    let put = before ++ rows_text c.args.codes.now.categories (realised s r).cells in
    let more : put ≡ file_text p (realisations_to s (r + 1)) = ap (λ (categories : List ℤ). before ++ rows_text categories (realised s r).cells) same ∙ sym (one_more p s r) in
    let all = in_front p s (r + 1) p.realisations few in
    let e = err_from_is_err_and c.from_residual-in_err-push.result c.from_residual-in_err-push.ensures.1 in
    rw e.1
    (λ told.
    front_later (files.held pieces.name) put all.0 (run_file p s) (ap (λ (t : List ℕ). t ++ all.0) more ∙ sym all.1)
    (has_front pieces files put (c.in_ok-counted.ensures.put before c.loop-realisation.invariant.put) told))

pub returns-in_err-push-clause-only : goal.returns-in_err-push-clause-only
returns-in_err-push-clause-only g c =
    let mid = g.F.Files.seen c.loop-realisation.files in
    let now = g.F.Files.seen c.put_realisation.new.files in
    let given = c.loop-realisation.invariant in
    writes_through c.args.pieces.now.name (g.F.Files.seen c.args.files.now) mid now given.only (subst (λ (n : List ℕ). OnlyWrites n mid now) given.name c.put_realisation.ensures.only)

pub loop-realisation-preserved : goal.loop-realisation-preserved
loop-realisation-preserved g c =
    let p = c.args.parameters.now in
    let s = c.args.setup.now in
    let r = c.loop-realisation.realisation in
    let pieces = c.put_realisation.new.pieces in
    let mid = g.F.Files.seen c.loop-realisation.files in
    let now = g.F.Files.seen c.put_realisation.new.files in
    let given = c.loop-realisation.invariant in
    let same : c.args.codes.now.categories ≡ p.categories = ap (λ (codes : Codes). codes.categories) c.requires.codes in
    let before = file_text p (realisations_to s r) in
    let more : before ++ rows_text c.args.codes.now.categories (realised s r).cells ≡ file_text p (realisations_to s (r + 1)) =
    ap (λ (categories : List ℤ). before ++ rows_text categories (realised s r).cells) same ∙ sym (one_more p s r) in
    record {
      counts =
          c.in_ok-push.ensures.items
          ∙ ap (λ (all : List (List ℕ)). all ++ c.in_ok-counted.counted ∷ []) given.counts
          ∙ ap (λ (counted : List ℕ). counts_of s r ++ counted ∷ []) c.in_ok-counted.ensures.counts
          ∙ sym (counts_more s r);
      going = c.in_ok-counted.ensures.going;
      name = c.put_realisation.ensures.name ∙ given.name;
      put = subst (λ (t : List ℕ). HasPut pieces now t) more (c.in_ok-counted.ensures.put before given.put);
      uncounted = λ n. c.in_ok-counted.ensures.uncounted n ∙ given.uncounted n;
      only = writes_through c.args.pieces.now.name (g.F.Files.seen c.args.files.now) mid now given.only (subst (λ (n : List ℕ). OnlyWrites n mid now) given.name c.put_realisation.ensures.only);
      ready = c.put_realisation.ensures.ready;
    }

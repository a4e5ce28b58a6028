use Rattle.std.proofs.Common.{◌≡◌, ◌+◌, ◌++◌, refl, ap, sym, ◌∙◌, subst, ℕ, List, take, drop}
use Rattle.std.specs.Prelude.{IsNone, IsSome, slice_range}
use Rattle.std.proofs.lemmas.Result.{err_from_is_err_and}
use Rattle.mp_outside.specs.Seen.{OnlyWrites}
use Rattle.realisation_out.specs.Pieces.{HasPut}
use Rattle.realisation_out.specs.Text.{rows_text}
use Rattle.realisation_out.proofs.PiecesLemmas.{writes_through}
use Rattle.mps_run.proofs.PutTexts.{front_later, has_front, rows_behind, rows_left}
use Rattle.mps_run.proofs.putting.put_rows.Goals as goal

pub returns-in_err-push_rows_between-clause-put : goal.returns-in_err-push_rows_between-clause-put
returns-in_err-push_rows_between-clause-put g c =
    let codes = c.args.codes.now.categories in
    let cells = c.args.grid.now.cells in
    let from = c.loop-from.from in
    let pieces = c.loop-from.pieces in
    let files = g.F.Files.seen c.loop-from.files in
    let e = err_from_is_err_and c.from_residual.result c.from_residual.ensures.1 in
    λ text put.
    let before = text ++ rows_text codes (take from cells) in
    rw e.1
    (λ told.
    front_later (files.held pieces.name) before (rows_text codes (drop from cells)) (text ++ rows_text codes cells) (rows_left codes cells text from)
    (has_front pieces files before (c.loop-from.invariant.put text put) told))

pub returns-in_err-put-clause-put : goal.returns-in_err-put-clause-put
returns-in_err-put-clause-put g c =
    let codes = c.args.codes.now.categories in
    let cells = c.args.grid.now.cells in
    let from = c.loop-from.from in
    let pieces = c.put.new.self in
    let files = g.F.Files.seen c.put.new.files in
    let given = c.loop-from.invariant in
    let part = rows_text codes (slice_range cells from (from + 512)) in
    let made : c.deref.result.now ≡ part = c.deref.ensures.value ∙ c.in_ok-push_rows_between.ensures.text ∙ ap (λ (t : List ℕ). t ++ part) given.cleared in
    let e = err_from_is_err_and c.from_residual-in_err-put.result c.from_residual-in_err-put.ensures.1 in
    λ text put.
    let before = text ++ rows_text codes (take from cells) in
    let behind : before ++ c.deref.result.now ≡ text ++ rows_text codes (take (from + 512) cells) = ap (λ (t : List ℕ). before ++ t) made ∙ rows_behind codes cells text from 512 in
    rw e.1
    (λ told.
    front_later (files.held pieces.name) (before ++ c.deref.result.now) (rows_text codes (drop (from + 512) cells)) (text ++ rows_text codes cells)
    (ap (λ (t : List ℕ). t ++ rows_text codes (drop (from + 512) cells)) behind ∙ rows_left codes cells text (from + 512))
    (has_front pieces files (before ++ c.deref.result.now) (c.in_err-put.ensures.put before (given.put text put)) told))

pub loop-from-preserved : goal.loop-from-preserved
loop-from-preserved g c =
    let codes = c.args.codes.now.categories in
    let cells = c.args.grid.now.cells in
    let from = c.loop-from.from in
    let pieces = c.put.new.self in
    let before = g.F.Files.seen c.args.files.now in
    let mid = g.F.Files.seen c.loop-from.files in
    let files = g.F.Files.seen c.put.new.files in
    let given = c.loop-from.invariant in
    let part = rows_text codes (slice_range cells from (from + 512)) in
    let made : c.deref.result.now ≡ part = c.deref.ensures.value ∙ c.in_ok-push_rows_between.ensures.text ∙ ap (λ (t : List ℕ). t ++ part) given.cleared in
    record {
      cleared = c.clear.ensures.items;
      going = record {
        unfailed = subst IsNone (sym c.in_ok-put.ensures.told) refl;
        there = λ told. subst (λ (n : List ℕ). IsSome (files.held n)) (sym c.put.ensures.name) (c.put.ensures.held told);
      };
      name = c.put.ensures.name ∙ given.name;
      put = λ text put.
          let rows = text ++ rows_text codes (take from cells) in
          subst (λ (t : List ℕ). HasPut pieces files t)
          (ap (λ (t : List ℕ). rows ++ t) made ∙ rows_behind codes cells text from 512)
          (c.in_ok-put.ensures.put rows (given.put text put));
      uncounted = λ n. c.in_ok-put.ensures.uncounted n ∙ given.uncounted n;
      only = writes_through c.args.pieces.now.name before mid files given.only (subst (λ (n : List ℕ). OnlyWrites n mid files) given.name c.put.ensures.only);
    }

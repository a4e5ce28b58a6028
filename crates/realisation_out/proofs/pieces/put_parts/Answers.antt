use Rattle.std.proofs.Common.{◌≡◌, ◌≤◌, ◌<◌, ◌+◌, ◌++◌, ap, sym, ◌∙◌, subst, arith, ℕ, List, None, Some, length, length-append, take, drop, append_assoc}
use Rattle.std.specs.Prelude.{IsTrue, slice_range}
use Rattle.std.proofs.lemmas.List.{take-append-drop}
use Rattle.std.proofs.lemmas.Result.{err_from_is_err_and}
use Rattle.realisation_out.specs.Pieces.{IsPut}
use Rattle.realisation_out.proofs.PiecesLemmas.{fault_later, part_behind, part_length, writes_through}
use Rattle.realisation_out.proofs.pieces.put_parts.Goals as goal

pub returns-in_err-put_part-clause-put : goal.returns-in_err-put_part-clause-put
returns-in_err-put_part-clause-put g c =
    let bytes = c.args.bytes.now in
    let at = c.loop-at.at in
    let count = c.min-count.result in
    let given = c.loop-at.invariant in
    let now = (g.F.Files.seen c.put_part.new.files).held c.args.name.now in
    let left = c.put_part.new.kept.items in
    let fault = c.in_err-put_part.field-0.0 in
    let e = err_from_is_err_and c.from_residual.result c.from_residual.ensures.1 in
    λ text told put.
    let whole : ((text ++ take at bytes) ++ slice_range bytes at (at + count)) ++ drop (at + count) bytes ≡ text ++ bytes =
    ap (λ (t : List ℕ). t ++ drop (at + count) bytes) (part_behind text bytes at count)
    ∙ append_assoc text (take (at + count) bytes) (drop (at + count) bytes)
    ∙ ap (λ (t : List ℕ). text ++ t) (take-append-drop (at + count) bytes) in
    rw e.1
    (subst (λ (t : List ℕ). IsPut now left (Some fault) t) whole
    (fault_later now left left ((text ++ take at bytes) ++ slice_range bytes at (at + count)) (drop (at + count) bytes) fault
    (c.in_err-put_part.ensures.put (text ++ take at bytes) (subst IsTrue (sym given.only.tells_same) told) (given.put text told put))))

pub loop-at-preserved : goal.loop-at-preserved
loop-at-preserved g c =
    let bytes = c.args.bytes.now in
    let at = c.loop-at.at in
    let count = c.min-count.result in
    let given = c.loop-at.invariant in
    let kept = c.args.kept.now.items in
    let part = slice_range bytes at (at + count) in
    let now = (g.F.Files.seen c.put_part.new.files).held c.args.name.now in
    let within : at + count ≤ length bytes = omega (arith, c.min-count.ensures, c.loop-at-test.true) in
    let long : length part ≡ count = part_length bytes at count within in
    record {
      within = within;
      short = c.put_part.ensures.short;
      held = λ told. c.put_part.ensures.held (subst IsTrue (sym given.only.tells_same) told);
      put = λ text told put.
          subst (λ (t : List ℕ). IsPut now c.put_part.new.kept.items None t) (part_behind text bytes at count)
          (c.in_ok-put_part.ensures.put (text ++ take at bytes) (subst IsTrue (sym given.only.tells_same) told) (given.put text told put));
      waits = λ few.
          let before : length kept + at < 8192 = omega arith in
          let fills : length c.loop-at.kept.items + length part < 8192 = omega (arith, given.keeps before, long) in
          c.put_part.ensures.waits fills ∙ given.waits before;
      keeps = λ few.
          let before : length kept + at < 8192 = omega arith in
          let fills : length c.loop-at.kept.items + length part < 8192 = omega (arith, given.keeps before, long) in
          omega (arith, ap length (c.in_ok-put_part.ensures.keeps fills), length-append c.loop-at.kept.items part, given.keeps before, long);
      uncounted = λ n. c.in_ok-put_part.ensures.uncounted n ∙ given.uncounted n;
      only = writes_through c.args.name.now (g.F.Files.seen c.args.files.now) (g.F.Files.seen c.loop-at.files) (g.F.Files.seen c.put_part.new.files) given.only c.put_part.ensures.only;
    }

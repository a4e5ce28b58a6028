use Rattle.std.proofs.Common.{◌+◌, ◌*◌, ◌∙◌, ◌≡◌, ap, arith, length, map}
use Rattle.std.specs.List.{range_with_len}
use Rattle.std.proofs.lemmas.List.FromFn.{length-map-range_with_len}
use Rattle.path_stream.specs.Words.{Place}
use Rattle.mps_demo.specs.Drawn.{place_in}
use Rattle.mps_demo.specs.Wells.{well_of, wells_of}
use Rattle.mps_demo.proofs.Growing.{one_more}
use Rattle.mps_demo.proofs.wells.draw_wells.Goals as goal

pub push-requires-clause-few : goal.push-requires-clause-few
push-requires-clause-few c =
    let f = well_of c.args.words.now.seed c.args.image.now in
    omega (arith, ap length c.loop-number.invariant.rows, length-map-range_with_len f 0 c.loop-number.number)

pub loop-number-preserved : goal.loop-number-preserved
loop-number-preserved c =
    let n = c.loop-number.number in
    let image = c.args.image.now in
    let given = c.loop-number.invariant in
    let seed = ap (λ (p : Place). p.seed) given.words in
    record {
      rows = one_more (well_of c.args.words.now.seed image) c.loop-number.rows c.push.new.self c.draw_well.result n given.rows c.in_ok-push.ensures.ok (c.draw_well.ensures.well ∙ ap (λ s. well_of s image n) seed);
      words = c.draw_well.ensures.words ∙ ap (λ s. place_in s (10 + 2 * (n + 1))) seed;
    }

pub returns : goal.returns
unfolding wells_of
returns c =
    let all : c.loop-number.number ≡ 30 = omega arith in
    c.loop-number.invariant.rows ∙ ap (λ n. map (well_of c.args.words.now.seed c.args.image.now) (range_with_len 0 n)) all

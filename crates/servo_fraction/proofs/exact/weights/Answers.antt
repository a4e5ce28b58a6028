use Rattle.std.proofs.Common.{rules, ◌≡◌, ◌∙◌, ◌∷◌, [], ◌++◌, ap, sym, arith, length, refl}
use Rattle.std.proofs.lemmas.List.FromFn.{map-range_with_len_more}
use Rattle.servo_fraction.specs.Weights.{weight_of, weights_of}
use Rattle.servo_fraction.proofs.Sums.{weights-some, weights-small}
use Rattle.servo_fraction.proofs.exact.weights.Goals as goal

pub loop-k-preserved : goal.loop-k-preserved
loop-k-preserved c =
    let f = weight_of c.args.counts.now c.args.target.now c.args.known.now c.args.servo in
    let same : c.weight.result ≡ f c.loop-k.k = search rules in
    record {
      items = c.push.ensures.items ∙ ap (λ x. c.loop-k.result.items ++ x ∷ []) same ∙ ap (λ xs. xs ++ f c.loop-k.k ∷ []) c.loop-k.invariant.items ∙ sym (map-range_with_len_more f 0 c.loop-k.k c.loop-k.k (omega arith));
      len = search rules;
    }

pub returns-clause-weights : goal.returns-clause-weights
unfolding weights_of
returns-clause-weights c = search rules

pub returns-clause-some : goal.returns-clause-some
returns-clause-some c =
    rw (returns-clause-weights c)
    (weights-some c.args.counts.now c.args.target.now c.args.known.now c.args.servo (length c.args.counts.now) refl c.requires.target_len c.requires.known_len c.requires.counts_some c.parts-parts.ensures.some c.requires.servo)

pub returns-clause-fits : goal.returns-clause-fits
returns-clause-fits c =
    rw (returns-clause-weights c)
    (weights-small c.args.counts.now c.args.target.now c.args.known.now c.args.servo (length c.args.counts.now) refl c.requires.target_len c.requires.known_len c.requires.counts_few c.parts-parts.ensures.few c.requires.known_few c.requires.servo)

use Rattle.std.proofs.Common.{arith, ◌≡◌, ◌∙◌, ◌-◌, ◌<◌, ◌∷◌, ℕ, List, ap, sym, refl, length, Some, inr, lit<}
use Rattle.seq_engine.specs.declared.setup.RunError.TheVariants.{TooFewPositions}
use Rattle.seq_engine.specs.Realisation.{level_positions}
use Rattle.seq_engine.proofs.Short.{enough_none, enough_more, short_none, short_is, counted_none, counted_more, counted_all, length-counted}
use Rattle.seq_engine.proofs.positions.check_positions.Goals as goal

pub loop-coarser-init : goal.loop-coarser-init
loop-coarser-init c = record { counts = c.new-counts.ensures ∙ sym (counted_none c.args.setup.now); enough = enough_none c.args.setup.now }

pub returns-then-have-want-clause-few : goal.returns-then-have-want-clause-few
returns-then-have-want-clause-few c =
    let s = c.args.setup.now in
    let k = c.loop-coarser.coarser in
    let have : c.in_ok-have.have ≡ length (level_positions s (s.levels - k)) = c.in_ok-have.ensures in
    inr (short_is s k (s.levels - k) c.loop-coarser.invariant.enough c.loop-coarser-test.true refl (omega (arith, c.if-have-want.true)) ∙ ap (λ (n : ℕ). Some (TooFewPositions (s.levels - k) n s.min_replicates)) (sym have))

pub insert-requires : goal.insert-requires
insert-requires c =
    let short : length c.loop-coarser.counts.items < 8 = omega (arith, ap length c.loop-coarser.invariant.counts, length-counted c.args.setup.now c.loop-coarser.coarser, c.requires.levels_few, c.loop-coarser-test.true) in
    (lit< tt, (omega arith, short))

pub loop-coarser-preserved : goal.loop-coarser-preserved
loop-coarser-preserved c =
    let s = c.args.setup.now in
    let k = c.loop-coarser.coarser in
    let have : c.in_ok-have.have ≡ length (level_positions s (s.levels - k)) = c.in_ok-have.ensures in
    record {
      counts =
          c.insert.ensures.items ∙ ap (λ (n : ℕ). n ∷ c.loop-coarser.counts.items) have ∙ ap (λ (l : List ℕ). length (level_positions s (s.levels - k)) ∷ l) c.loop-coarser.invariant.counts
          ∙ sym (counted_more s k (s.levels - k) c.loop-coarser-test.true refl);
      enough = enough_more s k (s.levels - k) c.loop-coarser.invariant.enough refl (omega (arith, c.if-have-want.false));
    }

pub returns-clause-counts : goal.returns-clause-counts
returns-clause-counts c =
    let s = c.args.setup.now in
    let all : c.loop-coarser.coarser ≡ s.levels = omega arith in
    c.loop-coarser.invariant.counts ∙ counted_all s c.loop-coarser.coarser all

pub returns-clause-enough : goal.returns-clause-enough
returns-clause-enough c = short_none c.args.setup.now c.loop-coarser.coarser c.loop-coarser.invariant.enough (omega arith)

use Rattle.std.proofs.Common.{rules, arith, ◌≡◌, ◌⊎◌, ◌∙◌, ◌-◌, ap, sym, refl, subst, map, List, Some, None, Err, Result, inl, inr}
use Rattle.std.specs.List.{All, range_with_len}
use Rattle.std.specs.Result.{IfErr}
use Rattle.std.specs.Option.{IsSome}
use Rattle.std.proofs.lemmas.List.Elements.{All-replicate, All-map}
use Rattle.mp_base.specs.declared.grid.Grid.{Grid}
use Rattle.mp_base.specs.Grid.{Field, Sides, field, IsBelow, cells_of}
use Rattle.hard_data.specs.Start.{datum_or_value}
use Rattle.hard_data.proofs.Known.{datum_or_value-below}
use Rattle.event_retrieve.specs.Plan.{Plan}
use Rattle.event_retrieve.specs.Sequential.{sequential}
use Rattle.seq_engine.specs.declared.setup.RunError.{RunError}
use Rattle.seq_engine.specs.declared.setup.RunError.TheVariants.{NoMemory}
use Rattle.seq_engine.specs.Realisation.{plan_over, values_at, too_few}
use Rattle.seq_engine.specs.Runs.{RanThrough}
use Rattle.seq_engine.proofs.Covered.{all_known}
use Rattle.seq_engine.proofs.Levels.{sides_after, ran_more, plans_until, plans_none, plans_more, plans_all, values_none, values_more}
use Rattle.seq_engine.proofs.Short.{enough_none, enough_more, short_none, short_is}
use Rattle.seq_engine.proofs.realisation.run_realisation.Goals as goal

pub loop-coarser-init : goal.loop-coarser-init
loop-coarser-init g c =
    let s = c.args.setup.now in
    let r = c.args.realisation in
    let is = c.in_ok-values.ensures in
    record {
      values = is ∙ sym (values_none s r);
      sides = ap (λ (f : Field). f.sides) is;
      below = subst (λ (f : Field). All (IsBelow s.cats) f.cells) (sym is) (All-replicate (IsBelow s.cats) (cells_of s.shape) None (search rules));
      ready = c.requires.ready;
      ran = subst (λ (ps : List Plan). RanThrough g.R.LevelRunner.ran c.args.runner.now ps c.args.runner.now) (sym (plans_none s r)) refl;
      enough = enough_none s;
    }

pub returns-in_err-simulate_level-clause-few : goal.returns-in_err-simulate_level-clause-few
returns-in_err-simulate_level-clause-few g c =
    let s = c.args.setup.now in
    let k = c.loop-coarser.coarser in
    let error : RunError = c.in_err-simulate_level.field-0.0 in
    let is : c.from_residual-in_err-simulate_level.result ≡ Err error = search rules in
    let cause : (error ≡ NoMemory) ⊎ (too_few s ≡ Some error) = elim c.in_err-simulate_level.ensures.few [
      | inl memory ↦ inl memory
      | inr short ↦ inr (short_is s k (s.levels - k) c.loop-coarser.invariant.enough c.loop-coarser-test.true refl short.1 ∙ ap Some (sym short.0))
    ] in
    subst (λ (x : Result Grid RunError). IfErr x (λ e. (e ≡ NoMemory) ⊎ (too_few s ≡ Some e))) (sym is) cause

pub loop-coarser-preserved : goal.loop-coarser-preserved
loop-coarser-preserved g c =
    let s = c.args.setup.now in
    let r = c.args.realisation in
    let k = c.loop-coarser.coarser in
    let before = c.loop-coarser.values in
    let given = c.loop-coarser.invariant in
    let told = c.in_ok-simulate_level.ensures in
    record {
      values = values_more s r k (s.levels - k) before c.simulate_level.new.values refl given.values told.values;
      sides = sides_after before c.simulate_level.new.values (sequential (plan_over s r (s.levels - k) before)) told.values ∙ given.sides;
      below = told.below;
      ready = told.ready;
      ran =
          subst (λ (ps : List Plan). RanThrough g.R.LevelRunner.ran c.args.runner.now ps c.simulate_level.new.runner) (sym (plans_more s r k (s.levels - k) refl))
          (ran_more g.R.LevelRunner.ran c.args.runner.now c.loop-coarser.runner c.simulate_level.new.runner (plans_until s r k) (plan_over s r (s.levels - k) (values_at s r k)) given.ran
          (subst (λ (f : Field). g.R.LevelRunner.ran c.loop-coarser.runner (plan_over s r (s.levels - k) f) c.simulate_level.new.runner) given.values told.ran));
      enough = enough_more s k (s.levels - k) given.enough refl told.enough;
    }

pub returns-clause-grid : goal.returns-clause-grid
returns-clause-grid g c =
    let s = c.args.setup.now in
    let all : c.loop-coarser.coarser ≡ s.levels = omega arith in
    let values : c.loop-coarser.values ≡ values_at s c.args.realisation s.levels = c.loop-coarser.invariant.values ∙ ap (values_at s c.args.realisation) all in
    c.with_hard_data.ensures ∙ ap (λ (f : Field). field s.hard.sides (map (datum_or_value s.hard f) (range_with_len 0 (cells_of s.hard.sides)))) values
    ∙ ap (λ (t : Sides). field t (map (datum_or_value s.hard (values_at s c.args.realisation s.levels)) (range_with_len 0 (cells_of t)))) c.requires.setup.setup.hard_sides

pub returns-clause-known : goal.returns-clause-known
returns-clause-known g c =
    subst (λ (f : Field). All IsSome f.cells) (sym (returns-clause-grid g c)) (all_known c.args.setup.now c.args.realisation c.requires.setup.setup.hard_sides c.requires.setup.setup.levels_some)

pub returns-clause-below : goal.returns-clause-below
returns-clause-below g c =
    let s = c.args.setup.now in
    let values = c.loop-coarser.values in
    subst (λ (f : Field). All (IsBelow s.cats) f.cells) (sym c.with_hard_data.ensures)
    (All-map (IsBelow s.cats) (datum_or_value s.hard values) (range_with_len 0 (cells_of s.hard.sides)) (λ i d _. datum_or_value-below s.hard values s.cats _ c.requires.setup.setup.hard_below c.loop-coarser.invariant.below))

pub returns-clause-ran : goal.returns-clause-ran
returns-clause-ran g c =
    let s = c.args.setup.now in
    let all : c.loop-coarser.coarser ≡ s.levels = omega arith in
    subst (λ (ps : List Plan). RanThrough g.R.LevelRunner.ran c.args.runner.now ps c.loop-coarser.runner) (plans_all s c.args.realisation c.loop-coarser.coarser all) c.loop-coarser.invariant.ran

pub returns-clause-enough : goal.returns-clause-enough
returns-clause-enough g c = short_none c.args.setup.now c.loop-coarser.coarser c.loop-coarser.invariant.enough (omega arith)

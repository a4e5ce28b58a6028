-- The levels of a realisation, one after another.
use Rattle.std.proofs.Common.{◌≡◌, ℕ, ◌+◌, ◌-◌, List, [], ◌∷◌, ◌++◌, map, replicate, None, refl, ap, sym, ◌∙◌, arith, subst}
use Rattle.std.specs.List.{range_with_len}
use Rattle.std.proofs.Math.Numerals.{add-one}
use Rattle.std.proofs.lemmas.List.FromFn.{map-range_with_len_more}
use Rattle.mp_base.specs.declared.cell.Entry.{Entry}
use Rattle.mp_base.specs.Grid.{Field, field, cells_of}
use Rattle.hard_data.specs.Start.{values_after}
use Rattle.event_retrieve.specs.Plan.{Plan}
use Rattle.event_retrieve.specs.Sequential.{sequential}
use Rattle.seq_engine.specs.declared.setup.Setup.{Setup}
use Rattle.seq_engine.specs.Realisation.{plan_over, plans_of, values_at}
use Rattle.seq_engine.specs.Runs.{RanThrough}

pub sides_after : (before after : Field) (log : List Entry) → after ≡ values_after before log → after.sides ≡ before.sides
sides_after before after log is = ap (λ (f : Field). f.sides) is

-- one plan more
pub ran_more : {R P : Type 0} (ran : R → P → R → Type 0) (before next after : R) (plans : List P) (p : P) → RanThrough ran before plans next → ran next p after → RanThrough ran before (plans ++ p ∷ []) after
ran_more ran before next after [] p through last = (after, subst (λ r. ran r p after) (sym through) last, refl)
ran_more ran before next after (q ∷ plans) p through last = (through.0, through.1, ran_more ran through.0 next after plans p through.2 last)

module _ (s : Setup) (realisation : ℕ) where
  -- the plans of the coarsest k levels
  unfoldable pub plans_until : ℕ → List Plan
  plans_until k = map (λ j. plan_over s realisation (s.levels - j) (values_at s realisation j)) (range_with_len 0 k)

  pub plans_none : plans_until 0 ≡ []
  unfolding plans_until
  plans_none = refl

  pub plans_more : (k level : ℕ) → level ≡ s.levels - k → plans_until (k + 1) ≡ plans_until k ++ plan_over s realisation level (values_at s realisation k) ∷ []
  unfolding plans_until
  plans_more k level is =
      map-range_with_len_more (λ j. plan_over s realisation (s.levels - j) (values_at s realisation j)) 0 k k (omega arith)
      ∙ ap (λ g. plans_until k ++ plan_over s realisation g (values_at s realisation k) ∷ []) (sym is)

  pub plans_all : (k : ℕ) → k ≡ s.levels → plans_until k ≡ plans_of s realisation
  unfolding plans_until
  plans_all k all = ap (λ n. map (λ j. plan_over s realisation (s.levels - j) (values_at s realisation j)) (range_with_len 0 n)) all

  pub values_none : values_at s realisation 0 ≡ field s.shape (replicate (cells_of s.shape) None)
  unfolding values_at
  values_none = refl

  pub values_more : (k level : ℕ) (before after : Field) → level ≡ s.levels - k → before ≡ values_at s realisation k → after ≡ values_after before (sequential (plan_over s realisation level before)) → after ≡ values_at s realisation (k + 1)
  unfolding values_at
  values_more k level before after is_level is_before is_after =
      is_after ∙ ap (λ g. values_after before (sequential (plan_over s realisation g before))) is_level
      ∙ ap (λ v. values_after v (sequential (plan_over s realisation (s.levels - k) v))) is_before
      ∙ ap (values_at s realisation) (sym (add-one k))

-- The levels of a realisation, of which one is replayed.
use Rattle.std.proofs.Common.{◌≡◌, inl, inr, refl, sym, ◌∙◌, ap, subst, ℕ, zero, suc, ◌+◌, ◌-◌, ◌<◌, ◌≤◌, Bool, true, false, cond, map, Option, Some, None, arith}
use Rattle.std.specs.Prelude.{◌==◌}
use Rattle.std.specs.List.{range_with_len}
use Rattle.std.proofs.lemmas.Bool.{cases_eq, eqb-true, eq-eqb}
use Rattle.event_retrieve.specs.Plan.{Plan}
use Rattle.seq_engine.specs.Realisation.{plan_over, plans_of, values_at}
use Rattle.seq_engine.specs.Runs.{RanThrough}
use Rattle.seq_engine.specs.declared.setup.Setup.{Setup}
use Rattle.spec_steps.specs.declared.schedule.Schedule.{Schedule}
use Rattle.mps_replay.specs.Trace.{IsTold, Ran, Replaying, kept_after, plan_of_level, replaying, trace_in, trace_of}
use Rattle.mps_replay.specs.declared.kept.Trace.{Trace}

-- One level.

-- the runner once it has kept the trace of the schedule's level
abbrev pub with_trace : Replaying → Plan → Replaying
with_trace r p = replaying r.schedule r.window (Some (trace_of p r.schedule r.window))

pub kept_other : (r : Replaying) (p : Plan) → (p.level ≡ r.schedule.level → ⊥) → kept_after r p ≡ r
kept_other r p apart = by_level (p.level == r.schedule.level) refl
  where
    by_level : (b : Bool) → (p.level == r.schedule.level) ≡ b → cond b (with_trace r p) r ≡ r
    by_level true is = absurd (apart (eqb-true p.level r.schedule.level is))
    by_level false is = refl

pub kept_own : (r : Replaying) (p : Plan) → p.level ≡ r.schedule.level → kept_after r p ≡ with_trace r p
kept_own r p own = ap (λ b. cond b (with_trace r p) r) (eq-eqb p.level r.schedule.level own)

-- what a realisation leaves in a runner that has gone through the plan of the schedule's level
pub record Replayed (before : Replaying) (p : Plan) (after : Replaying) : Type 0 where
  pub kept : after ≡ with_trace before p
  pub told : IsTold p.source.cats before.schedule (trace_of p before.schedule before.window)

-- All levels.

module _ (s : Setup) (realisation : ℕ) where
  abbrev plan_at : ℕ → Plan
  plan_at k = plan_over s realisation (s.levels - k) (values_at s realisation k)

  -- levels that aren't the schedule's leave nothing behind
  others : (a n : ℕ) (before after : Replaying) → ((k : ℕ) → a ≤ k → k < a + n → s.levels - k ≡ before.schedule.level → ⊥) → RanThrough Ran before (map plan_at (range_with_len a n)) after → after ≡ before
  others a zero before after apart through = sym through
  others a (suc n) before after apart through =
      let same : through.0 ≡ before = through.1.kept ∙ kept_other before (plan_at a) (apart a (omega arith) (omega arith)) in
      others (a + 1) n through.0 after (λ k low high is. apart k (omega arith) (omega arith) (is ∙ ap (λ (r : Replaying). r.schedule.level) same)) through.2 ∙ same

  -- the first of these levels is the schedule's
  first_level : (k a n : ℕ) (before after : Replaying) → k ≡ a → a + suc n ≤ s.levels → s.levels - k ≡ before.schedule.level → RanThrough Ran before (map plan_at (range_with_len a (suc n))) after → Replayed before (plan_at k) after
  first_level k a n before after at inside own through =
      let level : s.levels - a ≡ before.schedule.level = ap (λ i. s.levels - i) (sym at) ∙ own in
      let next : through.0 ≡ with_trace before (plan_at a) = through.1.kept ∙ kept_own before (plan_at a) level in
      let same : after ≡ through.0 =
      others (a + 1) n through.0 after (λ j above below is. not_again j above below (is ∙ ap (λ (r : Replaying). r.schedule.level) next ∙ sym level)) through.2 in
      subst (λ i. Replayed before (plan_at i) after) (sym at) (record { kept = same ∙ next; told = through.1.told level })
    where
      not_again : (j : ℕ) → a + 1 ≤ j → j < a + 1 + n → s.levels - j ≡ s.levels - a → ⊥
      not_again j above below is = omega arith

  -- one of these levels is the schedule's
  through_level : (k a n : ℕ) (before after : Replaying) → a ≤ k → k < a + n → a + n ≤ s.levels → s.levels - k ≡ before.schedule.level → RanThrough Ran before (map plan_at (range_with_len a n)) after → Replayed before (plan_at k) after
  through_level k a zero before after low high inside own through = absurd (omega arith)
  through_level k a (suc n) before after low high inside own through =
      elim (cases_eq k a) [
        | inl at ↦ first_level k a n before after at inside own through
        | inr apart ↦
            let same : through.0 ≡ before = through.1.kept ∙ kept_other before (plan_at a) (λ is. apart (omega (arith, is, own))) in
            subst (λ (r : Replaying). Replayed r (plan_at k) after) same
            (through_level k (a + 1) n through.0 after (omega arith) (omega arith) (omega arith) (own ∙ ap (λ (r : Replaying). r.schedule.level) (sym same)) through.2)
      ]

  -- of a whole realisation the trace of the schedule's level is kept
  pub replayed : (before after : Replaying) → 1 ≤ before.schedule.level → before.schedule.level ≤ s.levels → RanThrough Ran before (plans_of s realisation) after → Replayed before (plan_of_level s realisation before.schedule.level) after
  replayed before after some most through =
      let back : s.levels - (s.levels - before.schedule.level) ≡ before.schedule.level = omega arith in
      subst (λ level. Replayed before (plan_over s realisation level (values_at s realisation (s.levels - before.schedule.level))) after) back
      (through_level (s.levels - before.schedule.level) 0 s.levels before after (omega arith) (omega arith) (omega arith) back through)

-- What is kept.

pub traced : (s : Setup) (schedule : Schedule) (levels window : ℕ) (first after : Replaying) → first ≡ replaying schedule window None → s.levels ≡ levels → 1 ≤ schedule.level → schedule.level ≤ levels → RanThrough Ran first (plans_of s schedule.realisation) after → Replayed (replaying schedule window None) (plan_of_level s schedule.realisation schedule.level) after
traced s schedule levels window first after is same some most through =
    replayed s schedule.realisation (replaying schedule window None) after some (omega arith) (subst (λ (r : Replaying). RanThrough Ran r (plans_of s schedule.realisation) after) is through)

pub trace_is : (taken : Option Trace) (trace : Trace) (s : Setup) (schedule : Schedule) (window : ℕ) (after : Replaying) → taken ≡ Some trace → taken ≡ after.trace → Replayed (replaying schedule window None) (plan_of_level s schedule.realisation schedule.level) after → trace ≡ trace_in s schedule window
trace_is taken trace s schedule window after some is kept =
    let same : Some trace ≡ Some (trace_in s schedule window) = sym some ∙ is ∙ ap (λ (r : Replaying). r.trace) kept.kept in
    cc

-- What follows a stage, and whether an image has enough positions.
use Rattle.std.proofs.Common.{◌≡◌, ◌⊎◌, inl, inr, refl, sym, ◌∙◌, ap, ℕ, zero, suc, ◌+◌, ◌-◌, ◌<◌, ◌≤◌, Bool, true, false, cond, List, length, map, Option, Some, None, Result, Ok, Err, arith}
use Rattle.std.specs.Prelude.{find, option_map}
use Rattle.std.specs.List.{range_with_len}
use Rattle.std.specs.Option.{option_map_or}
use Rattle.std.proofs.lemmas.Bool.{cases_eq, ltb-false}
use Rattle.seq_engine.specs.Realisation.{is_short, level_positions, positions_by_level, short_level, too_few}
use Rattle.seq_engine.specs.declared.setup.RunError.{RunError}
use Rattle.seq_engine.specs.declared.setup.RunError.TheVariants as run
use Rattle.seq_engine.specs.declared.setup.Setup.{Setup}
use Rattle.mps_inputs.specs.Answers.{IsRefusal}
use Rattle.mp_text.specs.Chain.{◌>>=◌}
use Rattle.mps_inputs.specs.Setup.{positions_of, run_fault, setup_for, setup_of}
use Rattle.mps_inputs.specs.declared.fault.Fault.{Fault}
use Rattle.mps_inputs.specs.declared.fault.Fault.TheVariants.{Usage, CannotRead, CannotWrite, OutOfMemory, CannotReport}
use Rattle.mps_inputs.specs.declared.inputs.Inputs.{Inputs}

-- what follows isn't reached where there is a refusal
pub refused_next : {A B : Type 0} (r : Result A Fault) (next : A → Result B Fault) (fault : Fault) → IsRefusal r fault → IsRefusal (r >>= next) fault
refused_next r next Usage is = absurd is
refused_next r next (CannotRead name) is = absurd is
refused_next r next (CannotWrite name) is = absurd is
refused_next r next CannotReport is = absurd is
refused_next r next OutOfMemory is = is
refused_next {A} r next fault is = ap (λ (o : Result A Fault). o >>= next) is

-- The positions.

pub positions_told : (s : Setup) (positions : List ℕ) → short_level s ≡ None → positions ≡ positions_by_level s → positions_of s ≡ Ok positions
positions_told s positions enough is =
    ap (λ (short : Option ℕ). option_map_or (λ error. Err (run_fault error)) (option_map (λ level. run.TooFewPositions level (length (level_positions s level)) s.min_replicates) short) (Ok (positions_by_level s))) enough
    ∙ ap Ok (sym is)

pub positions_refused : (s : Setup) (error : RunError) → (error ≡ run.NoMemory) ⊎ (too_few s ≡ Some error) → IsRefusal (positions_of s) (run_fault error)
positions_refused s run.NoMemory why = tt
positions_refused s (run.TooFewPositions level have want) (inl memory) = absurd (cc memory)
positions_refused s (run.TooFewPositions level have want) (inr short) = ap (λ (o : Option RunError). option_map_or (λ error. Err (run_fault error)) o (Ok (positions_by_level s))) short

-- The levels.

first_fails : {X : Type 0} (b : Bool) (x : X) (rest : Option X) → cond b (Some x) rest ≡ None → (b ≡ false) × (rest ≡ None)
first_fails true x rest none = absurd (cc none)
first_fails false x rest none = (refl, none)

find_fails : (q : ℕ → Bool) (f : ℕ → ℕ) (a n k : ℕ) → find q (map f (range_with_len a n)) ≡ None → a ≤ k → k < a + n → q (f k) ≡ false
find_fails q f a zero k none low high = absurd (omega arith)
find_fails q f a (suc n) k none low high =
    let first = first_fails (q (f a)) (f a) (find q (map f (range_with_len (a + 1) n))) none in
    elim (cases_eq k a) [
      | inl at ↦ ap (λ i. q (f i)) at ∙ first.0
      | inr apart ↦ find_fails q f (a + 1) n k first.1 (omega arith) (omega arith)
    ]

none_short : (s : Setup) (short : Option ℕ) (positions : List ℕ) → ◌≡◌ {A = Result (List ℕ) Fault} (option_map_or (λ error. Err (run_fault error)) (option_map (λ level. run.TooFewPositions level (length (level_positions s level)) s.min_replicates) short) (Ok (positions_by_level s))) (Ok positions) → short ≡ None
none_short s None positions is = refl
none_short s (Some level) positions is = absurd (cc is)

-- where no level is short, each has as many positions as the replicates that are wanted
pub enough_positions : (s : Setup) (positions : List ℕ) (level : ℕ) → positions_of s ≡ Ok positions → 1 ≤ level → level ≤ s.levels → s.min_replicates ≤ length (level_positions s level)
unfolding short_level
enough_positions s positions level is some most =
    let none = none_short s (short_level s) positions is in
    let back : s.levels - (s.levels - level) ≡ level = omega arith in
    ltb-false (length (level_positions s level)) s.min_replicates
    (ap (is_short s) (sym back) ∙ find_fails (is_short s) (λ j. s.levels - j) 0 s.levels (s.levels - level) none (omega arith) (omega arith))

pub levels_same : (inputs : Inputs) → (setup_for inputs).levels ≡ inputs.parameters.levels
unfolding setup_of
levels_same inputs = refl

-- Only words are refused as words: reading and judging what the files hold never is.
use Rattle.std.proofs.Common.{◌≡◌, refl, ℕ, List, length, Option, Some, None, Result, Ok, Err}
use Rattle.std.specs.Prelude.{ok_or, option_map}
use Rattle.std.specs.Option.{option_map_or}
use Rattle.mp_outside.specs.Contents.{Held}
use Rattle.mp_params.specs.Params.{ParamsValue}
use Rattle.mp_text.specs.Chain.{◌>>=◌}
use Rattle.seq_engine.specs.Realisation.{level_positions, positions_by_level, short_level}
use Rattle.seq_engine.specs.declared.setup.RunError.TheVariants as run
use Rattle.seq_engine.specs.declared.setup.Setup.{Setup}
use Rattle.mps_inputs.specs.Inputs.{image_in, image_with, inputs_with, judged, points_in, points_of, points_with, read_as, tables_of, with_points}
use Rattle.mps_inputs.specs.Setup.{positions_of, run_fault}
use Rattle.mps_inputs.specs.declared.fault.Fault.{Fault}
use Rattle.mps_inputs.specs.declared.fault.Fault.TheVariants.{Usage, CannotRead, Image, Points}

abbrev pub NoUsage : {A : Type 0} → Result A Fault → Type 0
NoUsage r = r ≡ Err Usage → ⊥

-- neither of two stages
pub neither_usage : {A B : Type 0} (r : Result A Fault) (next : A → Result B Fault) → NoUsage r → ((a : A) → NoUsage (next a)) → NoUsage (r >>= next)
neither_usage (Ok a) next first second is = second a is
neither_usage {A} (Err Usage) next first second is = absurd (first refl)
neither_usage (Err fault) next first second is = absurd (cc is)

pub ok_no_usage : {A : Type 0} (a : A) → NoUsage (Ok a)
ok_no_usage a is = cc is

pub judged_no_usage : {A E : Type 0} (r : Result A E) (fault : E → Fault) → ((e : E) → fault e ≡ Usage → ⊥) → NoUsage (judged fault r)
judged_no_usage (Ok a) fault other is = cc is
judged_no_usage (Err e) fault other is = other e (cc is)

held_no_usage : (content : Option (List ℕ)) (name : List ℕ) → NoUsage (ok_or content (CannotRead name))
held_no_usage None name is = cc is
held_no_usage (Some bytes) name is = cc is

-- a file, where what is made of its bytes isn't refused so
pub read_no_usage : {A : Type 0} (made : List ℕ → Result A Fault) (name : List ℕ) (held : Held) → ((bytes : List ℕ) → NoUsage (made bytes)) → NoUsage (read_as made name held)
read_no_usage made name held other = neither_usage (ok_or (held name) (CannotRead name)) made (held_no_usage (held name) name) other

pub tables_no_usage : (p : ParamsValue) (held : Held) → NoUsage (tables_of p held)
unfolding image_in points_in
tables_no_usage p held =
    neither_usage (read_as (image_in p) p.image held) (λ image. inputs_with p image held)
    (read_no_usage (image_in p) p.image held (λ file. neither_usage _ (image_with p) (judged_no_usage _ Image (λ e is. cc is)) (λ table. ok_no_usage _)))
    (λ image. neither_usage (points_of p p.points held) (with_points p image) (of_points p.points) (λ points. ok_no_usage _))
  where
    of_points : (name : Option (List ℕ)) → NoUsage (points_of p name held)
    of_points None = ok_no_usage _
    of_points (Some name) = read_no_usage (points_in p) name held (λ file. neither_usage _ (points_with p) (judged_no_usage _ Points (λ e is. cc is)) (λ table. ok_no_usage _))

pub positions_no_usage : (s : Setup) → NoUsage (positions_of s)
positions_no_usage s = of_short (short_level s)
  where
    of_short : (short : Option ℕ) → NoUsage (option_map_or (λ error. Err (run_fault error)) (option_map (λ level. run.TooFewPositions level (length (level_positions s level)) s.min_replicates) short) (Ok (positions_by_level s)))
    of_short None is = cc is
    of_short (Some level) is = cc is

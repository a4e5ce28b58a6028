-- Parameters that are refused when all their values are known.
use Rattle.std.proofs.Common.{◌≡◌, true, false, cond, Ok, Err, ap, ◌∙◌}
use Rattle.mp_params.specs.declared.fault.ParamsFault.TheVariants.{BadMissing, BadTargets}
use Rattle.mp_params.specs.Params.{ParamsValue, targets_fit}
use Rattle.mp_params.specs.Reading.{judged}
use Rattle.mp_values.specs.Values.{is_code}

pub bad_missing : (p : ParamsValue) → is_code p.missing p.categories ≡ true → judged p ≡ Err BadMissing
bad_missing p is = ap (λ b. cond b (Err BadMissing) (cond (targets_fit p.targets p.categories) (Ok p) (Err BadTargets))) is

pub no_bad_missing : (p : ParamsValue) → is_code p.missing p.categories ≡ false → judged p ≡ cond (targets_fit p.targets p.categories) (Ok p) (Err BadTargets)
no_bad_missing p isnt = ap (λ b. cond b (Err BadMissing) (cond (targets_fit p.targets p.categories) (Ok p) (Err BadTargets))) isnt

pub bad_targets : (p : ParamsValue) → is_code p.missing p.categories ≡ false → targets_fit p.targets p.categories ≡ false → judged p ≡ Err BadTargets
bad_targets p isnt unfit = no_bad_missing p isnt ∙ ap (λ b. cond b (Ok p) (Err BadTargets)) unfit

pub judged_ok : (p : ParamsValue) → is_code p.missing p.categories ≡ false → targets_fit p.targets p.categories ≡ true → judged p ≡ Ok p
judged_ok p isnt fit = no_bad_missing p isnt ∙ ap (λ b. cond b (Ok p) (Err BadTargets)) fit

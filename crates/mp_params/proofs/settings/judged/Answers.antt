use Rattle.std.proofs.Common.{Ok, ap, sym, ◌∙◌}
use Rattle.mp_params.specs.Lines.{setting_of, unless}
use Rattle.mp_params.specs.Table.{key_of}
use Rattle.mp_params.proofs.Wholes.{unfaulted}
use Rattle.mp_params.proofs.Faults.{setting_kept, fault_of_setting}
use Rattle.mp_params.proofs.settings.judged.Goals as goal

pub returns-in-Some-key_fault-clause-value : goal.returns-in-Some-key_fault-clause-value
returns-in-Some-key_fault-clause-value c =
    let line = c.args.line.now in
    let seen = sym c.is_skipped.ensures ∙ c.if-is_skipped.false in
    let is = sym c.setting_in.ensures ∙ c.in-Some.is in
    sym (ap (λ o. unless o (setting_of line)) (fault_of_setting line c.in-Some.setting seen is c.args.number c.args.earlier.now ∙ sym c.key_fault.ensures ∙ c.in-Some-key_fault.is))

pub returns-clause-value : goal.returns-clause-value
returns-clause-value c =
    let line = c.args.line.now in
    let seen = sym c.is_skipped.ensures ∙ c.if-is_skipped.false in
    let is = sym c.setting_in.ensures ∙ c.in-Some.is in
    sym (ap (λ o. unless o (setting_of line)) (fault_of_setting line c.in-Some.setting seen is c.args.number c.args.earlier.now ∙ sym c.key_fault.ensures ∙ c.in_default-key_fault.is) ∙ ap Ok (setting_kept line c.in-Some.setting seen is))

pub returns-clause-read : goal.returns-clause-read
returns-clause-read c =
    let setting = c.in-Some.setting in
    record { fits_key = λ k here. unfaulted c.args.number c.args.earlier.now setting (key_of setting.name) (sym c.key_fault.ensures ∙ c.in_default-key_fault.is) k here }

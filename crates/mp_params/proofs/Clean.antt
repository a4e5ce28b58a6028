-- The printed lines of settings are those settings, and no line has a fault.
use Rattle.std.proofs.Common.{◌≡◌, ℕ, zero, suc, ◌+◌, ◌*◌, ◌<◌, ◌≤◌, true, false, cond, List, [], ◌∷◌, ◌++◌, length, take, map, get_or, Option, Some, None, Ok, refl, ap, subst, sym, ◌∙◌, arith}
use Rattle.std.specs.Prelude.{is_some, option_map, IfSome}
use Rattle.std.specs.List.{AllByRecursion, cons_option, flat_map}
use Rattle.std.specs.Option.{option_to_list}
use Rattle.std.proofs.lemmas.Bool.{and_parts, leb-true}
use Rattle.std.proofs.lemmas.List.{append-nil, append_assoc, length-append, length-map}
use Rattle.mp_params.specs.declared.fault.ParamsFault.{ParamsFault}
use Rattle.mp_params.specs.declared.fault.ParamsFault.TheVariants.{BadLine, Twice, BadValue}
use Rattle.mp_params.specs.declared.table.Key.{Key}
use Rattle.mp_params.specs.Lines.{SettingValue, settings_in, name_and_text, setting_of, given, is_setting, key_fault, line_fault, settings_of}
use Rattle.mp_params.specs.Params.{ParamsValue}
use Rattle.mp_params.specs.Printing.{ended_line, settings_for, setting_for, line_text, value_text}
use Rattle.mp_values.specs.Forms.{fits}
use Rattle.mp_params.specs.Table.{form_of, key_name, key_of}
use Rattle.mp_text.specs.Lines.{line_texts, text_of}
use Rattle.mp_text.proofs.LineLemmas.{lines_of_empty}
use Rattle.mp_params.proofs.Faults.{filter_map_push, settings_ok}
use Rattle.mp_params.proofs.Keys.{are_new, given_none, has_no, key_found, key_short, key_text}
use Rattle.mp_params.proofs.Written.{IsSettingValue, setting_back, setting_of_line, line_behind, line_bytes, line_setting, not_skipped}
use Rattle.mp_values.proofs.ValueTexts.{IsValueText}

-- a text that is a value of a key
pub record IsGood (k : Key) (text : List ℕ) : Type 0 where
  pub value : IsValueText text
  pub fits : fits (form_of k) text ≡ true

-- each key has such a text, or none
pub record AreGood (p : ParamsValue) : Type 0 where
  pub each : (k : Key) → IfSome (value_text p k) (IsGood k)

good_at : (p : ParamsValue) → AreGood p → (k : Key) (t : List ℕ) → value_text p k ≡ Some t → IsGood k t
good_at p good k t is = subst (λ o. IfSome o (IsGood k)) is (good.each k)

setting_good : (k : Key) (t : List ℕ) → IsGood k t → IsSettingValue (record { name = key_name k; text = t })
setting_good k t good = record { key = key_text k; short = leb-true (length (key_name k)) 14 (key_short k); value = good.value }

-- the line of a key that no line before it has
line_clean : (n : ℕ) (earlier : List SettingValue) (k : Key) (t : List ℕ) → IsGood k t → given earlier (key_name k) ≡ None → line_fault n earlier (line_text (record { name = key_name k; text = t })) ≡ None
unfolding line_fault
line_clean n earlier k t good none =
    let e : SettingValue = record { name = key_name k; text = t } in
    let is : IsSettingValue e = setting_good k t good in
    let line : List ℕ = line_text e in
    let judge : SettingValue → Option ParamsFault = λ x. key_fault n earlier x (key_of x.name) in
    let once : is_some (given earlier (key_name k)) ≡ false = ap is_some none in
    ap (λ b. cond b None (cond (is_setting line) (judge (name_and_text line)) (Some (BadLine n)))) (not_skipped e is) ∙ ap (λ b. cond b (judge (name_and_text line)) (Some (BadLine n))) (line_setting e is)
    ∙ ap judge (setting_back e is) ∙ ap (key_fault n earlier e) (key_found k) ∙ ap (λ b. cond b (Some (Twice n)) (cond (fits (form_of k) t) None (Some (BadValue n)))) once
    ∙ ap (λ b. cond b None (Some (BadValue n))) good.fits

-- no line of these settings has a fault, behind others
abbrev pub AllClean : List SettingValue → List SettingValue → Type 0
AllClean earlier [] = Unit {0}
AllClean earlier (e ∷ es) = ((n : ℕ) → line_fault n earlier (line_text e) ≡ None) × AllClean (earlier ++ e ∷ []) es

-- one more key in front
module _ (p : ParamsValue) (earlier ks : List Key) (k : Key) where
  front_of : (o : Option (List ℕ)) → value_text p k ≡ o → settings_for p (k ∷ ks) ≡ cons_option (option_map (λ t. record { name = key_name k; text = t }) o) (settings_for p ks)
  front_of o is = ap (λ v. cons_option (option_map (λ t. record { name = key_name k; text = t }) v) (settings_for p ks)) is

  behind_of : (o : Option (List ℕ)) → value_text p k ≡ o → settings_for p (earlier ++ k ∷ []) ≡ settings_for p earlier ++ option_to_list (option_map (λ t. record { name = key_name k; text = t }) o)
  behind_of o is = filter_map_push (setting_for p) earlier k ∙ ap (λ v. settings_for p earlier ++ option_to_list (option_map (λ t. record { name = key_name k; text = t }) v)) is

  clean_more : (o : Option (List ℕ)) → value_text p k ≡ o → AreGood p → has_no k earlier ≡ true → AllClean (settings_for p (earlier ++ k ∷ [])) (settings_for p ks) → AllClean (settings_for p earlier) (settings_for p (k ∷ ks))
  clean_more None is good none more =
      let same : settings_for p (earlier ++ k ∷ []) ≡ settings_for p earlier = behind_of None is ∙ append-nil (settings_for p earlier) in
      subst (λ es. AllClean (settings_for p earlier) es) (sym (front_of None is)) (subst (λ es. AllClean es (settings_for p ks)) same more)
  clean_more (Some t) is good none more =
      let e : SettingValue = record { name = key_name k; text = t } in
      let here : (n : ℕ) → line_fault n (settings_for p earlier) (line_text e) ≡ None = λ n. line_clean n (settings_for p earlier) k t (good_at p good k t is) (given_none p k earlier none) in
      let rest : AllClean (settings_for p earlier ++ e ∷ []) (settings_for p ks) = subst (λ es. AllClean es (settings_for p ks)) (behind_of (Some t) is) more in
      subst (λ es. AllClean (settings_for p earlier) es) (sym (front_of (Some t) is)) (here, rest)

pub clean_keys : (p : ParamsValue) → AreGood p → (earlier ks : List Key) → are_new earlier ks ≡ true → AllClean (settings_for p earlier) (settings_for p ks)
clean_keys p good earlier [] new = tt
clean_keys p good earlier (k ∷ ks) new =
    let parts = and_parts (has_no k earlier) (are_new (earlier ++ k ∷ []) ks) new in
    clean_more p earlier ks k (value_text p k) refl good parts.0 (clean_keys p good (earlier ++ k ∷ []) ks parts.1)

-- each setting is one that a line spells
settings_more : (p : ParamsValue) (ks : List Key) (k : Key) (o : Option (List ℕ)) → value_text p k ≡ o → AreGood p → AllByRecursion IsSettingValue (settings_for p ks) → AllByRecursion IsSettingValue (settings_for p (k ∷ ks))
settings_more p ks k None is good more = subst (λ es. AllByRecursion IsSettingValue es) (sym (front_of p [] ks k None is)) more
settings_more p ks k (Some t) is good more = subst (λ es. AllByRecursion IsSettingValue es) (sym (front_of p [] ks k (Some t) is)) (setting_good k t (good_at p good k t is), more)

pub settings_spelled : (p : ParamsValue) → AreGood p → (ks : List Key) → AllByRecursion IsSettingValue (settings_for p ks)
settings_spelled p good [] = tt
settings_spelled p good (k ∷ ks) = settings_more p ks k (value_text p k) refl good (settings_spelled p good ks)

-- at most one for each key
few_more : (p : ParamsValue) (ks : List Key) (k : Key) (o : Option (List ℕ)) → value_text p k ≡ o → length (settings_for p (k ∷ ks)) ≤ 1 + length (settings_for p ks)
few_more p ks k None is = omega (arith, ap length (front_of p [] ks k None is))
few_more p ks k (Some t) is = omega (arith, ap length (front_of p [] ks k (Some t) is))

pub settings_few : (p : ParamsValue) (ks : List Key) → length (settings_for p ks) ≤ length ks
settings_few p [] = omega arith
settings_few p (k ∷ ks) = omega (arith, few_more p ks k (value_text p k) refl, settings_few p ks)

-- the lines of the text are the lines of the settings
pub lines_back : (es : List SettingValue) → AllByRecursion IsSettingValue es → line_texts (flat_map ended_line es) ≡ map line_text es
lines_back [] is = ap (map text_of) (lines_of_empty [] refl)
lines_back (e ∷ es) is =
    ap line_texts (append_assoc (line_text e) (10 ∷ []) (flat_map ended_line es)) ∙ line_behind (line_text e) (flat_map ended_line es) (line_bytes e is.0) ∙ ap (λ ls. line_text e ∷ ls) (lines_back es is.1)

-- and they are those settings
pub settings_written_back : (es : List SettingValue) → AllByRecursion IsSettingValue es → settings_in (map line_text es) ≡ es
settings_written_back [] is = refl
settings_written_back (e ∷ es) is = ap (λ o. cons_option o (settings_in (map line_text es))) (setting_of_line e is.0) ∙ ap (λ xs. e ∷ xs) (settings_written_back es is.1)

pub text_few : (es : List SettingValue) → AllByRecursion IsSettingValue es → length (flat_map ended_line es) ≤ 618 * length es
text_few [] is = omega arith
text_few (e ∷ es) is =
    let here : IsSettingValue e = is.0 in
    omega (
      arith,
      text_few es is.1,
      length-append (ended_line e) (flat_map ended_line es),
      length-append (line_text e) (10 ∷ []),
      length-append e.name (32 ∷ 61 ∷ 32 ∷ e.text),
      here.short,
      here.value.few,
    )

-- no line has a fault
clean_at : (earlier es : List SettingValue) → AllByRecursion IsSettingValue es → AllClean earlier es → (n i : ℕ) → i < length es → line_fault n (earlier ++ settings_in (take i (map line_text es))) (get_or (map line_text es) i []) ≡ None
clean_at earlier [] is clean n i within = absurd (omega arith)
clean_at earlier (e ∷ es) is clean n zero within = ap (λ xs. line_fault n xs (line_text e)) (append-nil earlier) ∙ clean.0 n
clean_at earlier (e ∷ es) is clean n (suc i) within =
    let rest : List SettingValue = settings_in (take i (map line_text es)) in
    let line : List ℕ = get_or (map line_text es) i [] in
    let front : cons_option (setting_of (line_text e)) rest ≡ e ∷ rest = ap (λ o. cons_option o rest) (setting_of_line e is.0) in
    ap (λ xs. line_fault n (earlier ++ xs) line) front ∙ ap (λ xs. line_fault n xs line) (sym (append_assoc earlier (e ∷ []) rest)) ∙ clean_at (earlier ++ e ∷ []) es is.1 clean.1 n i (omega arith)

-- so the settings of the text are the settings
pub settings_back : (es : List SettingValue) → AllByRecursion IsSettingValue es → AllClean [] es → settings_of (map line_text es) ≡ Ok es
settings_back es is clean =
    settings_ok (map line_text es) (λ i below. clean_at [] es is clean (i + 1) i (omega (arith, length-map es line_text))) ∙ ap Ok (settings_written_back es is)

-- Settings that are read, and that are whole.
use Rattle.std.proofs.Common.{◌≡◌, ℕ, zero, suc, Bool, true, false, cond, not, ◌&&◌, ◌||◌, List, [], ◌∷◌, ◌++◌, Option, Some, None, Result, Ok, refl, ap, subst, sym, ◌∙◌, arith, inl, inr}
use Rattle.std.specs.Prelude.{All, IfOk, IfSome, is_none, is_some, option_map, unwrap_or}
use Rattle.std.specs.List.{filter, find, list_all}
use Rattle.std.specs.Option.{option_or, option_to_list}
use Rattle.std.specs.Str.{bytes_eq}
use Rattle.std.proofs.lemmas.Bool.{cases_Bool, false≢true}
use Rattle.std.proofs.lemmas.List.{append-nil}
use Rattle.std.proofs.lemmas.List.Elements.{All-append}
use Rattle.std.proofs.lemmas.Slice.Eq.{bytes_eq-Decides}
use Rattle.mp_values.specs.Forms.{fits, number_of}
use Rattle.mp_values.specs.declared.form.Form.{Form}
use Rattle.mp_values.specs.declared.form.Form.TheVariants as form
use Rattle.mp_params.specs.declared.fault.ParamsFault.{ParamsFault}
use Rattle.mp_params.specs.declared.table.Key.{Key}
use Rattle.mp_params.specs.Lines.{SettingValue, given, key_fault}
use Rattle.mp_params.specs.Reading.{first_absent, text_for}
use Rattle.mp_params.specs.Table.{default_of, form_of, key_name, key_of, keys, row_of}
use Rattle.mp_params.specs.Whole.{IsRead, IsWhole, has_value, is_absent, is_number_form}
use Rattle.mp_params.proofs.Defaults.{defaults_fit}
use Rattle.mp_params.proofs.Keys.{each_key, key_found}

clean : (a b : Bool) (f g : ParamsFault) → cond a (Some f) (cond b None (Some g)) ≡ None → b ≡ true
clean true b f g is = cc
clean false true f g is = refl
clean false false f g is = cc

-- where a line's key and value have no fault, the text has the form of the key
pub unfaulted : (n : ℕ) (earlier : List SettingValue) (e : SettingValue) (o : Option Key) → key_fault n earlier e o ≡ None → (k : Key) → o ≡ Some k → fits (form_of k) e.text ≡ true
unfaulted n earlier e None is k here = cc
unfaulted n earlier e (Some j) is k here =
    let same : j ≡ k = cc here in
    subst (λ i. fits (form_of i) e.text ≡ true) same (clean (is_some (given earlier e.name)) (fits (form_of j) e.text) _ _ is)

pub if_read : {E : Type 0} (r : Result (Option SettingValue) E) (o : Option SettingValue) → r ≡ Ok o → IfOk r (λ s. IfSome s IsRead) → IfSome o IsRead
if_read {E = E} r o is read = subst (λ (x : Result (Option SettingValue) E). IfOk x (λ s. IfSome s IsRead)) is read

one_read : (e : SettingValue) → IsRead e → All IsRead (e ∷ [])
one_read e read zero d within = read
one_read e read (suc i) d within = absurd (omega arith)

pub read_more : (es : List SettingValue) (o : Option SettingValue) → All IsRead es → IfSome o IsRead → All IsRead (es ++ option_to_list o)
read_more es None read one = subst (All IsRead) (sym (append-nil es)) read
read_more es (Some e) read one = All-append IsRead es (e ∷ []) read (one_read e one)

-- what is found among settings that are read is read, and passes
found_read : (p : SettingValue → Bool) (es : List SettingValue) (e : SettingValue) → All IsRead es → find p es ≡ Some e → IsRead e × (p e ≡ true)
found_read p [] e read is = cc
found_read p (x ∷ es) e read is = elim (cases_Bool (p x)) [
  | inl passes ↦
      let here : Some x ≡ Some e = sym (ap (λ b. cond b (Some x) (find p es)) passes) ∙ is in
      let same : x ≡ e = cc here in
      (subst IsRead same (read 0 x (omega arith)), ap p (sym same) ∙ passes)
  | inr fails ↦ found_read p es e (λ i d within. read (suc i) d (omega arith)) (sym (ap (λ b. cond b (Some x) (find p es)) fails) ∙ is)
]

text_read : (k : Key) (o : Option SettingValue) (t : List ℕ) → ((e : SettingValue) → o ≡ Some e → IsRead e × (bytes_eq e.name (key_name k) ≡ true)) → option_map (λ e. e.text) o ≡ Some t → fits (form_of k) t ≡ true
text_read k None t each is = cc
text_read k (Some e) t each is =
    let both = each e refl in
    let name : e.name ≡ key_name k = (bytes_eq-Decides e.name (key_name k)).0 both.1 in
    let same : e.text ≡ t = cc is in
    subst (λ x. fits (form_of k) x ≡ true) same (both.0.fits_key k (ap key_of name ∙ key_found k))

-- a text that a line gives has the form of its key
given_read : (es : List SettingValue) → All IsRead es → (k : Key) (t : List ℕ) → given es (key_name k) ≡ Some t → fits (form_of k) t ≡ true
given_read es read k t is =
    text_read k (find (λ e. bytes_eq e.name (key_name k)) es) t (λ e found. found_read (λ x. bytes_eq x.name (key_name k)) es e read found) is

-- nothing is found in what passes exactly where nothing passes both
pub find_filter : (p q : Key → Bool) (ks : List Key) → find (λ k. q k && p k) ks ≡ find p (filter q ks)
find_filter p q [] = refl
find_filter p q (k ∷ ks) =
    let rest = find_filter p q ks in
    elim (cases_Bool (q k)) [
      | inl is ↦
          ap (λ b. cond (b && p k) (Some k) (find (λ j. q j && p j) ks)) is ∙ ap (λ o. cond (p k) (Some k) o) rest
          ∙ sym (ap (λ b. find p (cond b (k ∷ filter q ks) (filter q ks))) is)
      | inr isnt ↦ ap (λ b. cond (b && p k) (Some k) (find (λ j. q j && p j) ks)) isnt ∙ rest ∙ sym (ap (λ b. find p (cond b (k ∷ filter q ks) (filter q ks))) isnt)
    ]

find_none : (p : Key → Bool) (ks : List Key) → find p ks ≡ None → list_all (λ k. not (p k)) ks ≡ true
find_none p [] none = refl
find_none p (k ∷ ks) none = elim (cases_Bool (p k)) [
  | inl is ↦
      let some : Some k ≡ None = sym (ap (λ b. cond b (Some k) (find p ks)) is) ∙ none in
      cc some
  | inr isnt ↦ ap (λ b. not b && list_all (λ j. not (p j)) ks) isnt ∙ find_none p ks (sym (ap (λ b. cond b (Some k) (find p ks)) isnt) ∙ none)
]

-- a required key that is absent, and one that has no default
text_whole : (es : List SettingValue) → All IsRead es → (k : Key) (o d : Option (List ℕ)) (required : Bool) → given es (key_name k) ≡ o → default_of k ≡ d → not (required && is_none o) ≡ true → (required || is_some d) ≡ true → fits (form_of k) (unwrap_or (option_or o d) []) ≡ true
text_whole es read k (Some t) d required is default present has = given_read es read k t is
text_whole es read k None (Some t) required is default present has = defaults_fit k t default
text_whole es read k None None true is default present has = cc
text_whole es read k None None false is default present has = cc

-- settings that are read are whole where no required key is absent
pub whole_from : (es : List SettingValue) → All IsRead es → None ≡ first_absent es → IsWhole es
whole_from es read none =
    let present : list_all (λ k. not (is_absent es k)) keys ≡ true = find_none (is_absent es) keys (find_filter (λ k. is_none (given es (key_name k))) (λ k. (row_of k).is_required) keys ∙ sym none) in
    record { each = λ k has. text_whole es read k (given es (key_name k)) (default_of k) (row_of k).is_required refl refl (each_key (λ j. not (is_absent es j)) present k) has }

-- a text has the form that is known of its key
pub has_form : (f : Form) (es : List SettingValue) (k : Key) → IsWhole es → form_of k ≡ f → has_value k ≡ true → fits f (text_for k es) ≡ true
has_form f es k whole is has = subst (λ g. fits g (text_for k es) ≡ true) is (whole.each k has)

-- a number's text is read
pub is_number_read : (f : Form) (t : List ℕ) → is_number_form f ≡ true → fits f t ≡ true → is_some (number_of f t) ≡ true
is_number_read (form.Number low high) t is fits = fits
is_number_read f t is fits = cc

-- where something is read, nothing isn't
pub unread : {X : Type 0} (o : Option X) → None ≡ o → is_some o ≡ true → ⊥
unread None none some = false≢true some
unread (Some x) none some = cc none

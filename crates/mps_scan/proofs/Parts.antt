-- Data between commas, one after another.
use Rattle.std.proofs.Common.{◌≡◌, ℕ, suc, ◌+◌, ◌<◌, Bool, true, false, cond, List, [], ◌∷◌, ◌++◌, length, Option, Some, None, refl, ap, sym, ◌∙◌, arith}
use Rattle.std.specs.Prelude.{option_map, option_and_then, nat_le, ◌&&◌}
use Rattle.std.specs.List.{after_first, before_first, position_or_len, slice_split}
use Rattle.std.proofs.lemmas.List.{append_assoc, append-nil, drop_all}
use Rattle.std.proofs.lemmas.List.Splits.{slice_split_first, slice_split_none}
use Rattle.std.proofs.lemmas.List.Sums.{fails_before_first}
use Rattle.mp_base.specs.Number.{short_number}
use Rattle.mp_values.specs.Values.{all_read, where_so}
use Rattle.mps_scan.specs.declared.coded.CodedDatum.{CodedDatum}
use Rattle.mps_scan.specs.Coded.{coded, positions_rise, next_position}
use Rattle.mps_scan.specs.Words.{code_of, data_in, datum_of, is_comma, is_equals, position_of, with_datum, with_part}
use Rattle.mps_scan.proofs.CodedLemmas.{rise-append}

-- the event with further data, where the positions rise
abbrev pub followed_by : List CodedDatum → Option (List CodedDatum) → Option (List CodedDatum)
followed_by event read = option_and_then (λ more. where_so (positions_rise 1) (event ++ more)) read

-- the event with the data of further parts
abbrev pub followed : List CodedDatum → List (List ℕ) → Option (List CodedDatum)
followed event parts = followed_by event (all_read datum_of parts)

-- whether a datum may stand behind the event decides, whatever follows
behind_one : (event : List CodedDatum) (d : CodedDatum) (read : Option (List CodedDatum)) (b : Bool) → positions_rise 1 event ≡ true → nat_le (next_position event) d.position ≡ b → followed_by event (option_map (λ xs. d ∷ xs) read) ≡ option_and_then (λ new. followed_by new read) (cond b (Some (event ++ d ∷ [])) None)
behind_one event d None true rise may = refl
behind_one event d None false rise may = refl
behind_one event d (Some more) true rise may = ap (where_so (positions_rise 1)) (sym (append_assoc event (d ∷ []) more))
behind_one event d (Some more) false rise may =
    let falls : positions_rise 1 (event ++ d ∷ more) ≡ false =
    rise-append 1 event d more ∙ ap (λ b. b && positions_rise (next_position event) (d ∷ more)) rise ∙ ap (λ b. b && positions_rise (suc d.position) more) may in
    ap (λ b. cond b (Some (event ++ d ∷ more)) None) falls

-- the next part is taken, or nothing is read
more_by : (event : List CodedDatum) (o : Option CodedDatum) (parts : List (List ℕ)) → positions_rise 1 event ≡ true → followed_by event (option_and_then (λ x. option_map (λ xs. x ∷ xs) (all_read datum_of parts)) o) ≡ option_and_then (λ new. followed new parts) (option_and_then (with_datum event) o)
more_by event None parts rise = refl
more_by event (Some d) parts rise = behind_one event d (all_read datum_of parts) (nat_le (next_position event) d.position) rise refl

pub part_more : (event : List CodedDatum) (text : List ℕ) (parts : List (List ℕ)) → positions_rise 1 event ≡ true → followed event (text ∷ parts) ≡ option_and_then (λ new. followed new parts) (with_part event text)
part_more event text parts rise = more_by event (datum_of text) parts rise

end_by : (event : List CodedDatum) (d : CodedDatum) (b : Bool) → positions_rise 1 event ≡ true → nat_le (next_position event) d.position ≡ b → option_and_then (λ new. followed_by new (Some [])) (cond b (Some (event ++ d ∷ [])) None) ≡ cond b (Some (event ++ d ∷ [])) None
end_by event d false rise may = refl
end_by event d true rise may =
    let rises : positions_rise 1 (event ++ d ∷ []) ≡ true =
    rise-append 1 event d [] ∙ ap (λ b. b && positions_rise (next_position event) (d ∷ [])) rise ∙ ap (λ b. b && true) may in
    ap (where_so (positions_rise 1)) (append-nil (event ++ d ∷ [])) ∙ ap (λ b. cond b (Some (event ++ d ∷ [])) None) rises

end_with : (event : List CodedDatum) (o : Option CodedDatum) → positions_rise 1 event ≡ true → option_and_then (λ new. followed new []) (option_and_then (with_datum event) o) ≡ option_and_then (with_datum event) o
end_with event None rise = refl
end_with event (Some d) rise = end_by event d (nat_le (next_position event) d.position) rise refl

-- the last part
pub part_last : (event : List CodedDatum) (text : List ℕ) → positions_rise 1 event ≡ true → followed event (text ∷ []) ≡ with_part event text
part_last event text rise = part_more event text [] rise ∙ end_with event (datum_of text) rise

-- the first part and those behind its comma
pub split_more : (rest part more : List ℕ) → position_or_len is_comma rest < length rest → part ≡ before_first is_comma rest → more ≡ after_first is_comma rest → slice_split is_comma rest ≡ part ∷ slice_split is_comma more
split_more rest part more some before behind = slice_split_first is_comma rest 0 some ∙ (λ i. sym before i ∷ slice_split is_comma (sym behind i))

-- a part without a comma
split_one : (rest : List ℕ) → position_or_len is_comma rest ≡ length rest → slice_split is_comma rest ≡ rest ∷ []
split_one rest none = slice_split_none is_comma rest (λ k d in_list. fails_before_first is_comma rest k d (omega (arith, none)))

module _ (read : Option (List CodedDatum)) (event : List CodedDatum) (rest : List ℕ) (rise : positions_rise 1 event ≡ true) (so : read ≡ followed event (slice_split is_comma rest)) where
  to_more : (part more : List ℕ) → slice_split is_comma rest ≡ part ∷ slice_split is_comma more → read ≡ option_and_then (λ new. followed new (slice_split is_comma more)) (with_part event part)
  to_more part more split = so ∙ ap (followed event) split ∙ part_more event part (slice_split is_comma more) rise

  -- a part was taken
  pub read_more : (part more : List ℕ) (new : List CodedDatum) → slice_split is_comma rest ≡ part ∷ slice_split is_comma more → with_part event part ≡ Some new → read ≡ followed new (slice_split is_comma more)
  read_more part more new split is = to_more part more split ∙ ap (option_and_then (λ e. followed e (slice_split is_comma more))) is

  -- a part was refused
  pub read_none : (part more : List ℕ) → slice_split is_comma rest ≡ part ∷ slice_split is_comma more → with_part event part ≡ None → None ≡ read
  read_none part more split is = sym (to_more part more split ∙ ap (option_and_then (λ e. followed e (slice_split is_comma more))) is)

  -- no comma is left
  pub read_last : position_or_len is_comma rest ≡ length rest → with_part event rest ≡ read
  read_last none = sym (so ∙ ap (followed event) (split_one rest none) ∙ part_last event rest rise)

pub read_first : (text : List ℕ) (event : List CodedDatum) → event ≡ [] → data_in text ≡ followed event (slice_split is_comma text)
unfolding data_in
read_first text event empty = ap (λ e. followed e (slice_split is_comma text)) (sym empty)

nothing_then : {X Y : Type 0} (o : Option X) → ◌≡◌ {A = Option Y} (option_and_then (λ x. None) o) None
nothing_then None = refl
nothing_then (Some x) = refl

-- without a `=` there is no datum
pub no_datum : (text : List ℕ) → position_or_len is_equals text ≡ length text → None ≡ datum_of text
unfolding datum_of code_of short_number
no_datum text none =
    let behind : after_first is_equals text ≡ [] = drop_all (position_or_len is_equals text + 1) text (omega (arith, none)) in
    sym (ap (λ (xs : List ℕ). option_and_then (λ position. option_map (coded position) (code_of xs)) (position_of (before_first is_equals text))) behind ∙ nothing_then (position_of (before_first is_equals text)))

-- Sums of the parts of an event over all groups.
use Rattle.std.proofs.Common.{◌≡◌, ℕ, suc, ◌+◌, ◌-◌, ◌*◌, ◌/◌, ◌%◌, ◌^◌, ◌<◌, ◌≤◌, List, [], ◌∷◌, ◌++◌, length, get_or, map, take, length-take, ap, sym, ◌∙◌, refl, arith}
use Rattle.std.specs.List.{range_with_len, sum_by}
use Rattle.std.proofs.lemmas.List.{get_or-map, get_or-take, length-map}
use Rattle.std.proofs.lemmas.List.FromFn.{fill_by_all, get_or-map-range_with_len, length-map-range_with_len, map-range_with_len_more}
use Rattle.std.proofs.lemmas.Nat.{div-mul-add, mod-mul-add}
use Rattle.ti_scan.specs.declared.event.Datum.{Datum}
use Rattle.ti_scan.proofs.Blocks.{map-same}
use Rattle.pattern_blocks.specs.Rows.{BitRows}
use Rattle.pattern_blocks.specs.Planes.{PlaneRows}
use Rattle.pattern_blocks.proofs.Pairs.{row-fits}
use Rattle.pattern_blocks.proofs.Sums.{sum-same}
use Rattle.pattern_store.specs.Gains.{group_gain, store_gain}
use Rattle.pattern_store.specs.Longest.{prefix_counts, rows_from}
use Rattle.pattern_store.specs.Store.{IsStore}
use Rattle.pattern_store.proofs.RowSums.{rows_more, rows_none}
use Rattle.pattern_store.proofs.Stored.{gain_room}
use Rattle.pattern_store.proofs.Sums.{sum-grows, sum-more}
use Rattle.impala_list.specs.Parts.{AddsCounts, group_counts, part_at, part_sum}

module _ (parts : List (List ℕ)) (step event : ℕ) where
  pub none_summed : (k : ℕ) → part_sum parts step event 0 k ≡ 0
  unfolding part_sum
  none_summed k = refl

  more : (n k : ℕ) → part_sum parts step event (n + 1) k ≡ part_sum parts step event n k + get_or (get_or parts (n * step + event) []) k 0
  unfolding part_sum
  more n k = sum-more (λ g. get_or (get_or parts (g * step + event) []) k 0) n

  grows : (n groups k : ℕ) → n ≤ groups → part_sum parts step event n k ≤ part_sum parts step event groups k
  unfolding part_sum
  grows n groups k le =
      let whole : n + (groups - n) ≡ groups = omega arith in
      omega (arith, sum-grows (λ g. get_or (get_or parts (g * step + event) []) k 0) n (groups - n), ap (λ x. sum_by (λ g. get_or (get_or parts (g * step + event) []) k 0) (range_with_len 0 x)) whole)

  module _ (n k : ℕ) (part before : List ℕ) (is : part ≡ get_or parts (n * step + event) []) (summed : get_or before k 0 ≡ part_sum parts step event n k) where
    pub part_fits : (groups : ℕ) → n < groups → part_sum parts step event groups k < 2 ^ 32 → get_or before k 0 + get_or part k 0 < 2 ^ 32
    part_fits groups within room = omega (arith, summed, more n k, ap (λ (l : List ℕ). get_or l k 0) is, grows (n + 1) groups k (omega arith))

    pub part_summed : (after : List ℕ) → AddsCounts part before after → k < length part → get_or after k 0 ≡ part_sum parts step event (n + 1) k
    part_summed after adds below = omega (arith, adds.each k below, summed, more n k, ap (λ (l : List ℕ). get_or l k 0) is)

  -- the first numbers of the sums
  pub sums_taken : (n cats : ℕ) (sums : List ℕ) → cats ≤ length sums → ((k : ℕ) → k < cats → get_or sums k 0 ≡ part_sum parts step event n k) → take cats sums ≡ map (part_sum parts step event n) (range_with_len 0 cats)
  sums_taken n cats sums long summed =
      fill_by_all (part_sum parts step event n) (take cats sums) cats 0 (omega (arith, length-take cats sums)) (λ k below. get_or-take cats sums k 0 below ∙ summed k below)

module _ (shown : BitRows) (counts : PlaneRows) (groups : ℕ) (events : List (List Datum)) (parts : List (List ℕ)) (are : parts ≡ map (part_at shown counts events) (range_with_len 0 (groups * length events))) where
  pub count_of_parts : length parts ≡ groups * length events
  count_of_parts = ap length are ∙ length-map-range_with_len (part_at shown counts events) 0 (groups * length events)

  part_is : (i : ℕ) → i < groups * length events → get_or parts i [] ≡ part_at shown counts events i
  part_is i within = ap (λ (l : List (List ℕ)). get_or l i []) are ∙ get_or-map-range_with_len (part_at shown counts events) 0 (groups * length events) i i [] within (omega arith)

  pub parts_wide : (i : ℕ) → i < length parts → length (get_or parts i []) ≡ shown.cats
  parts_wide i within =
      ap length (part_is i (omega (arith, count_of_parts)))
      ∙ length-map-range_with_len (group_gain shown counts (i / length events) (get_or events (i % length events) []) (length (get_or events (i % length events) []))) 0 shown.cats

  abbrev event_at : ℕ → List Datum
  event_at j = get_or events j []

  number_is : (g j k : ℕ) → g < groups → j < length events → k < shown.cats → get_or (get_or parts (g * length events + j) []) k 0 ≡ group_gain shown counts g (event_at j) (length (event_at j)) k
  number_is g j k g_below j_below below =
      ap (λ (l : List ℕ). get_or l k 0) (part_is (g * length events + j) (row-fits g groups (length events) j g_below j_below))
      ∙ ap (λ x. get_or (group_counts shown counts x (event_at ((g * length events + j) % length events))) k 0) (div-mul-add g (length events) j j_below)
      ∙ ap (λ x. get_or (group_counts shown counts g (event_at x)) k 0) (mod-mul-add g (length events) j j_below)
      ∙ get_or-map-range_with_len (group_gain shown counts g (event_at j) (length (event_at j))) 0 shown.cats k k 0 below (omega arith)

  sum_is : (j k : ℕ) → j < length events → k < shown.cats → part_sum parts (length events) j groups k ≡ store_gain shown counts groups (event_at j) (length (event_at j)) k
  unfolding part_sum store_gain
  sum_is j k within below =
      sum-same (λ g. get_or (get_or parts (g * length events + j) []) k 0) (λ g. group_gain shown counts g (event_at j) (length (event_at j)) k) 0 groups (λ g low high. number_is g j k (omega arith) within below)

  pub sums_fit : IsStore shown counts groups → (j k : ℕ) → j < length events → k < shown.cats → part_sum parts (length events) j groups k < 2 ^ 32
  sums_fit store j k within below = omega (arith, sum_is j k within below, gain_room shown counts groups store (event_at j) (length (event_at j)) k below)

  event_counted : (j : ℕ) → j < length events → map (part_sum parts (length events) j groups) (range_with_len 0 shown.cats) ≡ prefix_counts shown counts groups (event_at j) (length (event_at j))
  event_counted j within =
      map-same (part_sum parts (length events) j groups) (rows_from shown counts groups (event_at j) (length (event_at j))) 0 0 shown.cats
      (λ k below. omega (
        arith,
        sum_is j (0 + k) within (omega arith),
        rows_more shown counts groups (event_at j) (length (event_at j)) (0 + k) (omega arith),
        rows_none shown counts groups (event_at j) (0 + k),
      ))

  -- the sums of the parts of each event are its counts
  pub all_counted : (cats : ℕ) (many : List (List ℕ)) → cats ≡ shown.cats → many ≡ map (λ j. map (part_sum parts (length events) j groups) (range_with_len 0 cats)) (range_with_len 0 (length events)) → many ≡ map (λ event. prefix_counts shown counts groups event (length event)) events
  all_counted cats many cats_are is =
      is
      ∙ ap (λ c. map (λ j. map (part_sum parts (length events) j groups) (range_with_len 0 c)) (range_with_len 0 (length events))) cats_are
      ∙ sym (fill_by_all (λ j. map (part_sum parts (length events) j groups) (range_with_len 0 shown.cats)) (map answer events) (length events) [] (length-map events answer)
      (λ j within. get_or-map answer events j [] [] within ∙ sym (event_counted j within)))
    where
      answer : List Datum → List ℕ
      answer event = prefix_counts shown counts groups event (length event)

-- the sums of one event more
pub event_summed : (parts seen : List (List ℕ)) (step groups cats event : ℕ) (many longer : List (List ℕ)) (sums : List ℕ) → seen ≡ parts → longer ≡ many ++ sums ∷ [] → many ≡ map (λ j. map (part_sum parts step j groups) (range_with_len 0 cats)) (range_with_len 0 event) → sums ≡ map (part_sum seen step event groups) (range_with_len 0 cats) → longer ≡ map (λ j. map (part_sum parts step j groups) (range_with_len 0 cats)) (range_with_len 0 (event + 1))
event_summed parts seen step groups cats event many longer sums same pushed before is =
    pushed ∙ ap (λ (l : List (List ℕ)). l ++ sums ∷ []) before
    ∙ ap (λ (l : List ℕ). map (λ j. map (part_sum parts step j groups) (range_with_len 0 cats)) (range_with_len 0 event) ++ l ∷ []) (is ∙ ap (λ (p : List (List ℕ)). map (part_sum p step event groups) (range_with_len 0 cats)) same)
    ∙ sym (map-range_with_len_more (λ j. map (part_sum parts step j groups) (range_with_len 0 cats)) 0 event event (omega arith))

-- two answers to each event of a list that are the same
pub same_answers : (f g : List Datum → List ℕ) (events : List (List Datum)) → ((j : ℕ) → j < length events → f (get_or events j []) ≡ g (get_or events j [])) → map f events ≡ map g events
same_answers f g [] same = refl
same_answers f g (event ∷ events) same = ap (λ (l : List ℕ). l ∷ map f events) (same 0 (omega arith)) ∙ ap (λ (l : List (List ℕ)). g event ∷ l) (same_answers f g events (λ j within. same (suc j) (omega arith)))

-- The text of `scan`, put together.
use Rattle.std.proofs.Common.{◌≡◌, ℕ, ◌+◌, List, [], ◌∷◌, length, ◌<◌, get_or, map, take, refl, ap, sym, ◌∙◌, subst, arith}
use Rattle.std.specs.List.{All, range_with_len}
use Rattle.std.proofs.lemmas.List.{get_or-map, length-map, length-take}
use Rattle.std.proofs.lemmas.List.Elements.{All-map}
use Rattle.std.proofs.lemmas.List.FromFn.{get_or-map-range_with_len, length-map-range_with_len}
use Rattle.mp_base.specs.Grid.{Field}
use Rattle.mp_values.specs.declared.choice.StoreChoice.{StoreChoice}
use Rattle.ti_scan.specs.declared.event.Datum.{Datum}
use Rattle.ti_scan.specs.Event.{IsEvent, Source, StandsFor, counts_of}
use Rattle.ti_scan.specs.Prefix.{has_enough, longest}
use Rattle.ti_scan.proofs.Greatest.{greatest-le}
use Rattle.ti_scan.proofs.RisingLemmas.{RisesFrom-take}
use Rattle.event_retrieve.specs.Plan.{Plan}
use Rattle.event_retrieve.specs.Retrieval.{cut, kept_len, reach, retained}
use Rattle.seq_engine.specs.declared.setup.Setup.{Setup}
use Rattle.seq_engine.specs.Realisation.{level_plan}
use Rattle.mps_scan.specs.Text.{prefixes_of, scan_plan, scan_text}

-- the retained part is as long as the longest prefix with enough replicates
pub retained_len : (p : Plan) (event : List Datum) → kept_len p (cut p event) ≡ length (retained p event)
unfolding longest
retained_len p event =
    let le = greatest-le (has_enough (counts_of p.source) p.min_replicates (cut p event)) (length (cut p event)) in
    sym (omega (arith, le, length-take (kept_len p (cut p event)) (cut p event)))

-- the prefixes of an event are events
pub prefixes_within : (last : ℕ) (event : List Datum) → IsEvent last event → All (IsEvent last) (prefixes_of event)
prefixes_within last event is = All-map (IsEvent last) (λ len. take len event) (range_with_len 0 (length event + 1)) (λ k d within. RisesFrom-take 1 last (get_or (range_with_len 0 (length event + 1)) k d) event is)

-- a store's counts of the prefixes are those of its source
module _ {S : Type 0} (gives : S → List Datum → List ℕ) (reaches : S → ℕ) (store : S) (s : Source) (is : StandsFor gives reaches store s) (event : List Datum) (within : IsEvent (length s.template) event) where
  some_same : (lens : List ℕ) → map (gives store) (map (λ len. take len event) lens) ≡ map (counts_of s) (map (λ len. take len event) lens)
  some_same [] = refl
  some_same (len ∷ lens) = λ i. is.counts (take len event) (RisesFrom-take 1 (length s.template) len event within) i ∷ some_same lens i

  pub counts_same : map (gives store) (prefixes_of event) ≡ map (counts_of s) (prefixes_of event)
  counts_same = some_same (range_with_len 0 (length event + 1))

  -- and its template is as long
  pub prefixes_fit : All (IsEvent (reaches store)) (prefixes_of event)
  prefixes_fit = subst (λ last. All (IsEvent last) (prefixes_of event)) (sym is.reach) (prefixes_within (length s.template) event within)

-- what is counted of each prefix
module _ (f : List Datum → List ℕ) (event : List Datum) (counts : List (List ℕ)) (are : counts ≡ map f (prefixes_of event)) where
  pub as_many : length counts ≡ length event + 1
  as_many = ap length are ∙ length-map (prefixes_of event) f ∙ length-map-range_with_len (λ len. take len event) 0 (length event + 1)

  pub counts_at : (n : ℕ) (found : List ℕ) → n < length counts → found ≡ get_or counts n found → found ≡ f (take n event)
  counts_at n found within is =
      let of_prefixes : n < length (prefixes_of event) = omega (arith, within, as_many, length-map-range_with_len (λ len. take len event) 0 (length event + 1)) in
      is ∙ ap (λ (all : List (List ℕ)). get_or all n found) are ∙ get_or-map f (prefixes_of event) n [] found of_prefixes
      ∙ ap f (get_or-map-range_with_len (λ len. take len event) 0 (length event + 1) n n [] (omega (arith, within, as_many)) (omega arith))

-- the text doesn't depend on the realisation or on what is known
pub any_plan : (s : Setup) (level : ℕ) (store : StoreChoice) (size realisation : ℕ) (start : Field) (event : List Datum) → scan_text store size (level_plan s realisation level start) event ≡ scan_text store size (scan_plan s level) event
unfolding scan_text reach
any_plan s level store size realisation start event = refl

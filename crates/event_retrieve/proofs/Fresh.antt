-- A sound offer that is not stale has what is retained of the event of its node's turn.
use Rattle.std.proofs.Common.{◌≡◌, ℕ, ◌+◌, ◌-◌, ◌<◌, ◌≤◌, Bool, true, false, List, length, Option, Some, None, slice_get, refl, ap, sym, ◌∙◌, inl, inr, subst, arith}
use Rattle.std.specs.Option.{option_and_then}
use Rattle.std.proofs.lemmas.Bool.{cases_lt}
use Rattle.std.proofs.lemmas.List.{length-take}
use Rattle.mp_base.specs.declared.cell.Vector.{Vector}
use Rattle.mp_base.specs.Grid.{cat_of, cat_at, cell_at}
use Rattle.ti_scan.specs.declared.event.Datum.{Datum}
use Rattle.ti_scan.specs.Event.{IsEvent, counts_of}
use Rattle.ti_scan.specs.Prefix.{longest, has_enough}
use Rattle.ti_scan.proofs.Greatest.{greatest-le}
use Rattle.event_retrieve.specs.declared.offer.Offer.{Offer}
use Rattle.event_retrieve.specs.Plan.{Plan, nodes_in, cell_of, grid_at, known, IsPath, IsFront}
use Rattle.event_retrieve.specs.Retrieval.{cut, kept_len, retained, reach}
use Rattle.event_retrieve.specs.Sequential.{sequential}
use Rattle.event_retrieve.specs.Offer.{IsSound, IsRetained, event_of_turn, stale_by, has_position}
use Rattle.event_retrieve.proofs.Agreeing.{AgreeUpTo, retained_by_reach}
use Rattle.event_retrieve.proofs.Data.{data_by-rises}
use Rattle.event_retrieve.proofs.Fronts.{IsFront-log, none_some, some_same, stays_until, known_cases, written}
use Rattle.event_retrieve.proofs.Logs.{IsLog-sequential, length-log_of}
use Rattle.event_retrieve.proofs.Members.{IsIn, AllIn-from_within, same_if_same_members, in_up_to, up_to-in, up_to-rises, found_if_in, in_if_found, position_in}
use Rattle.event_retrieve.proofs.Stale.{stale_by_none}

abbrev datum : ℕ → ℕ → Datum
datum q k = record { position = q; cat = k }

pub same_vector : {a b : Vector} → Some a ≡ Some b → a ≡ b
same_vector e = cc

pub known_cell : (cell : Option ℕ) (cells : List (Option ℕ)) (k : ℕ) → option_and_then (cat_of cells) cell ≡ Some k → (c : ℕ) × (cell ≡ Some c) × (cat_of cells c ≡ Some k)
known_cell None cells k e = absurd (none_some k e)
known_cell (Some c) cells k e = (c, refl, e)

-- the event of a turn is one of the template
pub event_of_turn-rises : (p : Plan) (i : ℕ) → IsEvent (length p.source.template) (event_of_turn p i)
unfolding known
event_of_turn-rises p i = data_by-rises _ p.source.template

-- events with one retained part keep as many data
len_of_retained : (p : Plan) (event : List Datum) → length (retained p event) ≡ kept_len p (cut p event)
unfolding longest
len_of_retained p event = omega (arith, length-take (kept_len p (cut p event)) (cut p event), greatest-le (has_enough (counts_of p.source) p.min_replicates (cut p event)) (length (cut p event)))

module _ (p : Plan) (path : IsPath p) (o : Offer) (sound : IsSound p o) (fresh : stale_by p o ≡ None) where
  abbrev t : ℕ
  t = length p.source.template

  abbrev turn : List Datum
  turn = event_of_turn p o.index

  front : IsFront p (sequential p)
  front = IsFront-log p (sequential p) (IsLog-sequential p)

  turn_within : o.index ≤ length (sequential p)
  turn_within = omega (arith, sound.in_path, length-log_of p (nodes_in p))

  -- what is found on the grid after m entries
  abbrev seen_at : ℕ → ℕ → Vector → Option ℕ
  seen_at m _ v = cat_at (grid_at p (sequential p) m) (cell_of p o.index) v

  -- the datum of position 1 + j, whose cell c has category k at the turn, is in the event
  module _ (j : ℕ) (v : Vector) (c k : ℕ) (stands : slice_get p.source.template j ≡ Some v) (cell : cell_at p.start.sides (cell_of p o.index) v ≡ Some c) (has : cat_of (grid_at p (sequential p) o.index).cells c ≡ Some k) (low : 1 + j ≤ o.retained.reach) where
    found_at : (m n : ℕ) → cat_of (grid_at p (sequential p) m).cells c ≡ Some n → seen_at m (1 + j) v ≡ Some n
    found_at m n is = ap (option_and_then (cat_of (grid_at p (sequential p) m).cells)) cell ∙ is

    -- where it was known when the entries were seen
    from_seen : (n : ℕ) → cat_of (grid_at p (sequential p) o.seen).cells c ≡ Some n → IsIn (datum (1 + j) k) o.event
    unfolding known
    from_seen n is =
        let same : n ≡ k = some_same n k (sym (stays_until p (sequential p) path front o.seen o.index c n sound.before turn_within is) ∙ has) in
        AllIn-from_within _ o.event sound.lower (datum (1 + j) k) (in_if_found (seen_at o.seen) 1 j p.source.template v k stands (found_at o.seen k (is ∙ ap (λ (x : ℕ). Some x) same)))

    -- where the event has a datum at its position
    from_event : (n : ℕ) → IsIn (datum (1 + j) n) o.event → IsIn (datum (1 + j) k) o.event
    unfolding known
    from_event n there =
        let f = found_if_in (seen_at o.index) 1 p.source.template (datum (1 + j) n) (AllIn-from_within o.event _ sound.upper (datum (1 + j) n) there) in
        let index : f.index ≡ j = omega (arith, f.position) in
        let vector : f.vector ≡ v = same_vector (sym f.stands ∙ ap (slice_get p.source.template) index ∙ stands) in
        let same : n ≡ k = some_same n k (sym f.found ∙ ap (seen_at o.index (1 + f.index)) vector ∙ found_at o.index k has) in
        subst (λ x. IsIn (datum (1 + j) x) o.event) same there

    -- where it is of a later entry
    from_later : (e : ℕ) → o.seen ≤ e → e < o.index → cell_of p e ≡ c → IsIn (datum (1 + j) k) o.event
    from_later e later earlier node = go (has_position o.event (1 + j)) refl
      where
        less_one : 1 + j - 1 ≡ j
        less_one = omega arith

        go : (b : Bool) → has_position o.event (1 + j) ≡ b → IsIn (datum (1 + j) k) o.event
        go true found = let q = position_in (1 + j) o.event found in from_event q.0 q.1
        go false missing = absurd (stale_by_none p o fresh (record { entry = e; position = 1 + j }) (record {
          later = later;
          earlier = earlier;
          first = omega arith;
          within = low;
          here = ap (λ n. option_and_then (cell_at p.start.sides (cell_of p o.index)) (slice_get p.source.template n)) less_one ∙ ap (option_and_then (cell_at p.start.sides (cell_of p o.index))) stands ∙ cell ∙ ap (λ (x : ℕ). Some x) (sym node);
          missing = missing;
        }))

    in_event : IsIn (datum (1 + j) k) o.event
    in_event = elim (known_cases p (sequential p) path front o.index c k turn_within has) [
      | inl at_start ↦ from_seen k (stays_until p (sequential p) path front 0 o.seen c k (omega arith) (omega (arith, turn_within, sound.before)) at_start)
      | inr node ↦ elim (cases_lt node.0 o.seen) [
        | inl before ↦ from_seen _ (ap (cat_of (grid_at p (sequential p) o.seen).cells) (sym node.2) ∙ written p (sequential p) path front o.seen node.0 before (omega (arith, turn_within, sound.before)))
        | inr later ↦ from_later node.0 later node.1 node.2
      ]
    ]

  -- a datum of the turn up to the reach is a datum of the event
  of_turn : (d : Datum) → IsIn d turn → d.position ≤ reach p o.event → IsIn d o.event
  unfolding known
  of_turn d is_in low =
      let f = found_if_in (seen_at o.index) 1 p.source.template d is_in in
      let c = known_cell (cell_at p.start.sides (cell_of p o.index) f.vector) (grid_at p (sequential p) o.index).cells d.cat f.found in
      subst (λ q. IsIn (datum q d.cat) o.event) (sym f.position) (in_event f.index f.vector c.0 d.cat f.stands c.1 c.2 (omega (arith, f.position, low, sound.retained.reach)))

  agree : AgreeUpTo (reach p o.event) o.event turn
  agree = same_if_same_members 1 1 t _ _ (up_to-rises (reach p o.event) 1 t o.event sound.event) (up_to-rises (reach p o.event) 1 t turn (event_of_turn-rises p o.index)) (λ d e. let f = in_up_to (reach p o.event) o.event d e in up_to-in (reach p o.event) turn d (AllIn-from_within o.event turn sound.upper d f.0) f.1) (λ d e. let f = in_up_to (reach p o.event) turn d e in up_to-in (reach p o.event) o.event d (of_turn d f.0 f.1) f.1)

  pub retained_of_turn : 1 ≤ p.max_data → (retained p turn ≡ retained p o.event) × (reach p turn ≡ reach p o.event)
  retained_of_turn some = retained_by_reach p o.event turn sound.event (event_of_turn-rises p o.index) some agree

  pub fresh_retained : 1 ≤ p.max_data → IsRetained p turn o.retained
  fresh_retained some =
      let same = retained_of_turn some in
      record {
        len = sound.retained.len ∙ sym (len_of_retained p o.event) ∙ ap length (sym same.0) ∙ len_of_retained p turn;
        reach = sound.retained.reach ∙ sym same.1;
        counts = sound.retained.counts ∙ ap (counts_of p.source) (sym same.0);
      }

-- Two events that agree at all positions up to the reach of one have the same retained part and reach.
use Rattle.std.proofs.Common.{◌≡◌, ◌⊎◌, ℕ, zero, suc, ◌-◌, ◌<◌, ◌≤◌, Bool, true, false, cond, List, [], ◌∷◌, ◌++◌, length, get_or, map, take, nat_le, nat_lt, ◌==◌, refl, ap, sym, ◌∙◌, inl, inr, subst, arith}
use Rattle.std.proofs.lemmas.Bool.{cases_eq, cases_lt}
use Rattle.std.proofs.lemmas.Bool.Decides.{nat_tests}
use Rattle.std.proofs.lemmas.List.{take_at, length-take, take-take, get_or-take, get_or-map, take-map}
use Rattle.ti_scan.specs.declared.event.Datum.{Datum}
use Rattle.ti_scan.specs.Rising.{RisesFrom}
use Rattle.ti_scan.specs.Event.{counts_of, total_of}
use Rattle.ti_scan.specs.Prefix.{longest, has_enough}
use Rattle.ti_scan.proofs.RisingLemmas.{RisesFrom-at, RisesFrom-take}
use Rattle.ti_scan.proofs.Greatest.{greatest-passes, greatest-fails, greatest_is}
use Rattle.event_retrieve.specs.Plan.{Plan}
use Rattle.event_retrieve.specs.Retrieval.{cut, kept_len, retained, reach, reach_by, position_at, up_to}
use Rattle.ti_scan.specs.Growing.{total-take-le}

-- two events have the same data at positions up to r
abbrev pub AgreeUpTo : ℕ → List Datum → List Datum → Type 0
AgreeUpTo r event other = up_to r event ≡ up_to r other

-- the first so many data of a cut have enough replicates
abbrev enough : Plan → List Datum → ℕ → Bool
enough p event len = has_enough (counts_of p.source) p.min_replicates event len

-- the reach of a cut
abbrev reach_of : Plan → List Datum → ℕ
reach_of p first = reach_by first (kept_len p first) p.max_data (length p.source.template)

-- what rises beyond r has no datum up to r
none_up_to : (r least last : ℕ) (event : List Datum) → r < least → RisesFrom least last event → up_to r event ≡ []
none_up_to r least last [] above rising = refl
none_up_to r least last (d ∷ event) above rising = go (nat_le d.position r) refl (none_up_to r (suc d.position) last event (omega (arith, rising.0)) rising.2)
  where
    go : (b : Bool) → nat_le d.position r ≡ b → up_to r event ≡ [] → cond b (d ∷ up_to r event) (up_to r event) ≡ []
    go true e rest = absurd (grind (arith, nat_tests, rising.0))
    go false e rest = rest

-- the data up to r stand first
pub begins : (r least last : ℕ) (event : List Datum) → RisesFrom least last event → (rest : List Datum) × (event ≡ up_to r event ++ rest)
begins r least last [] rising = ([], refl)
begins r least last (d ∷ event) rising = go (nat_le d.position r) refl (begins r (suc d.position) last event rising.2)
  where
    go : (b : Bool) → nat_le d.position r ≡ b → (rest : List Datum) × (event ≡ up_to r event ++ rest) → (rest : List Datum) × (d ∷ event ≡ cond b (d ∷ up_to r event) (up_to r event) ++ rest)
    go true e rest = (rest.0, ap (λ (l : List Datum). d ∷ l) rest.1)
    go false e rest = (d ∷ event, ap (λ (l : List Datum). l ++ d ∷ event) (sym (none_up_to r (suc d.position) last event (grind (arith, nat_tests)) rising.2)))

keeps : (r : ℕ) (d : Datum) (event rest : List Datum) → d.position ≤ r → up_to r event ≡ rest → up_to r (d ∷ event) ≡ d ∷ rest
keeps r d event rest within is =
    let yes_up_to : nat_le d.position r ≡ true = grind (arith, nat_tests) in
    ap (λ b. cond b (d ∷ up_to r event) (up_to r event)) yes_up_to ∙ ap (λ (l : List Datum). d ∷ l) is

position_at-le : (least last m : ℕ) (event : List Datum) → RisesFrom least last event → m < length event → (least ≤ position_at event m) × (position_at event m ≤ last)
position_at-le least last m event rising within =
    let d : Datum = record { position = 0; cat = 0 } in
    let at = RisesFrom-at least last m event d rising within in
    let is = get_or-map (λ (e : Datum). e.position) event m d 0 within in
    (omega (arith, at.0, is), omega (arith, at.1, is))

-- up to the position of datum m there are the data up to m
pub up_to-position : (least last m : ℕ) (event : List Datum) → RisesFrom least last event → m < length event → up_to (position_at event m) event ≡ take (suc m) event
up_to-position least last m [] rising within = absurd (omega arith)
up_to-position least last zero (d ∷ event) rising within = keeps d.position d event [] (omega arith) (none_up_to d.position (suc d.position) last event (omega arith) rising.2)
up_to-position least last (suc m) (d ∷ event) rising within =
    keeps (position_at event m) d event (take (suc m) event) (omega (arith, (position_at-le (suc d.position) last m event rising.2 (omega arith)).0)) (up_to-position (suc d.position) last m event rising.2 (omega arith))

-- all data are up to the last position
pub up_to-last : (least last : ℕ) (event : List Datum) → RisesFrom least last event → up_to last event ≡ event
up_to-last least last [] rising = refl
up_to-last least last (d ∷ event) rising = keeps last d event event rising.1 (up_to-last (suc d.position) last event rising.2)

-- the position of datum m is that in the first m + 1 data
position_at-take : (event : List Datum) (m k : ℕ) → m < k → position_at (take k event) m ≡ position_at event m
position_at-take event m k within = ap (λ (l : List ℕ). get_or l m 0) (sym (take-map (λ (d : Datum). d.position) k event)) ∙ get_or-take k (map (λ (d : Datum). d.position) event) m 0 within

-- where a datum is dropped, the reach is its position
reach_where_dropped : (p : Plan) (c : List Datum) → kept_len p c < length c → reach_of p c ≡ position_at c (kept_len p c)
reach_where_dropped p c dropped =
    let yes_dropped : nat_lt (kept_len p c) (length c) ≡ true = grind (arith, nat_tests) in
    ap (λ b. cond b (position_at c (kept_len p c)) (cond (length c == p.max_data) (position_at c (p.max_data - 1)) (length p.source.template))) yes_dropped

reach_where_held : (p : Plan) (c : List Datum) → length c ≤ kept_len p c → reach_of p c ≡ cond (length c == p.max_data) (position_at c (p.max_data - 1)) (length p.source.template)
reach_where_held p c held =
    let not_dropped : nat_lt (kept_len p c) (length c) ≡ false = grind (arith, nat_tests) in
    ap (λ b. cond b (position_at c (kept_len p c)) (cond (length c == p.max_data) (position_at c (p.max_data - 1)) (length p.source.template))) not_dropped

reach_where_full : (p : Plan) (c : List Datum) → length c ≡ p.max_data → cond (length c == p.max_data) (position_at c (p.max_data - 1)) (length p.source.template) ≡ position_at c (p.max_data - 1)
reach_where_full p c full =
    let is_full : (length c == p.max_data) ≡ true = grind (arith, nat_tests) in
    ap (λ b. cond b (position_at c (p.max_data - 1)) (length p.source.template)) is_full

reach_where_short : (p : Plan) (c : List Datum) → (length c ≡ p.max_data → ⊥) → cond (length c == p.max_data) (position_at c (p.max_data - 1)) (length p.source.template) ≡ length p.source.template
reach_where_short p c more =
    let not_full : (length c == p.max_data) ≡ false = grind (arith, nat_tests) in
    ap (λ b. cond b (position_at c (p.max_data - 1)) (length p.source.template)) not_full

-- c and d are cuts of which the first m + 1 data are the same, and the first drops datum m
module _ (p : Plan) (c d : List Datum) (dropped : kept_len p c < length c) (same : take (suc (kept_len p c)) d ≡ take (suc (kept_len p c)) c) where
  abbrev m : ℕ
  m = kept_len p c

  long : m < length d
  long = omega (arith, ap length same, length-take (suc m) d, length-take (suc m) c)

  same_front : take m d ≡ take m c
  same_front = sym (take-take m (suc m) d (omega arith)) ∙ ap (take m) same ∙ take-take m (suc m) c (omega arith)

  passes : (enough p c m ≡ true) ⊎ (m ≡ 0)
  unfolding longest
  passes = greatest-passes (enough p c) (length c)

  fails : enough p c (suc m) ≡ false
  unfolding longest
  fails = greatest-fails (enough p c) (length c) (suc m) (omega arith) dropped

  total_c : total_of p.source (take (suc m) c) < p.min_replicates
  total_c = let f = fails in grind (arith, nat_tests)

  dropped_len : kept_len p d ≡ m
  unfolding longest
  dropped_len =
      greatest_is (enough p d) (length d) m (omega (arith, long))
      (subst (λ (l : List Datum). (nat_le p.min_replicates (total_of p.source l) ≡ true) ⊎ (m ≡ 0)) (sym same_front) passes)
      (λ k above within. too_few k above)
    where
      too_few : (k : ℕ) → kept_len p c < k → enough p d k ≡ false
      too_few k above =
          let few : total_of p.source (take k d) < p.min_replicates =
          omega (arith, total-take-le p.source d (suc m) k above, ap (total_of p.source) same, total_c) in
          grind (arith, nat_tests)

  dropped_part : take (kept_len p d) d ≡ take m c
  dropped_part = ap (λ n. take n d) dropped_len ∙ same_front

  dropped_reach : reach_of p d ≡ reach_of p c
  dropped_reach =
      reach_where_dropped p d (omega (arith, long, dropped_len)) ∙ ap (position_at d) dropped_len ∙ sym (position_at-take d m (suc m) (omega arith))
      ∙ ap (λ (l : List Datum). position_at l m) same ∙ position_at-take c m (suc m) (omega arith) ∙ sym (reach_where_dropped p c dropped)

-- events that agree up to r have the same first k data, where those are the data up to r of one
same_first : (r k t : ℕ) (event other : List Datum) → k ≤ length event → up_to r event ≡ take k event → AgreeUpTo r event other → RisesFrom 1 t other → take k other ≡ take k event
same_first r k t event other within is agree rising =
    let split = begins r 1 t other rising in
    let front : other ≡ take k event ++ split.0 = split.1 ∙ ap (λ (l : List Datum). l ++ split.0) (sym agree ∙ is) in
    ap (take k) front ∙ take_at (take k event) split.0 k (omega (arith, length-take k event))

-- Two events that agree at all positions up to the reach of one have the same retained part and reach.
pub retained_by_reach : (p : Plan) (event other : List Datum) → RisesFrom 1 (length p.source.template) event → RisesFrom 1 (length p.source.template) other → 1 ≤ p.max_data → AgreeUpTo (reach p event) event other → (retained p other ≡ retained p event) × (reach p other ≡ reach p event)
unfolding reach
retained_by_reach p event other rising other_rising some agree =
    elim (cases_lt (kept_len p (cut p event)) (length (cut p event))) [
      | inl dropped ↦ where_dropped dropped
      | inr held ↦ elim (cases_eq (length (cut p event)) p.max_data) [
        | inl full ↦ where_same (where_full held full)
        | inr more ↦ where_same (where_short held more)
      ]
    ]
  where
    where_same : cut p other ≡ cut p event → (retained p other ≡ retained p event) × (reach_of p (cut p other) ≡ reach_of p (cut p event))
    where_same same = (ap (λ c. take (kept_len p c) c) same, ap (reach_of p) same)

    within_cut : length (cut p event) ≤ p.max_data
    within_cut = omega (arith, length-take p.max_data event)

    within_event : length (cut p event) ≤ length event
    within_event = omega (arith, length-take p.max_data event)

    where_dropped : kept_len p (cut p event) < length (cut p event) → (retained p other ≡ retained p event) × (reach_of p (cut p other) ≡ reach_of p (cut p event))
    where_dropped dropped =
        let m = kept_len p (cut p event) in
        let at : reach_of p (cut p event) ≡ position_at event m =
        reach_where_dropped p (cut p event) dropped ∙ position_at-take event m p.max_data (omega (arith, within_cut)) in
        let same : take (suc m) other ≡ take (suc m) event =
        same_first (position_at event m) (suc m) (length p.source.template) event other (omega (arith, within_event)) (up_to-position 1 (length p.source.template) m event rising (omega (arith, within_event))) (subst (λ r. AgreeUpTo r event other) at agree) other_rising in
        let same_cut : take (suc m) (cut p other) ≡ take (suc m) (cut p event) =
        take-take (suc m) p.max_data other (omega (arith, within_cut)) ∙ same ∙ sym (take-take (suc m) p.max_data event (omega (arith, within_cut))) in
        (dropped_part p (cut p event) (cut p other) dropped same_cut, dropped_reach p (cut p event) (cut p other) dropped same_cut)

    where_full : length (cut p event) ≤ kept_len p (cut p event) → length (cut p event) ≡ p.max_data → cut p other ≡ cut p event
    where_full held full =
        let last = p.max_data - 1 in
        let reach_is : reach_of p (cut p event) ≡ position_at event last =
        reach_where_held p (cut p event) held ∙ reach_where_full p (cut p event) full ∙ position_at-take event last p.max_data (omega arith) in
        let next : suc last ≡ p.max_data = omega arith in
        let up_to_is : up_to (position_at event last) event ≡ take p.max_data event =
        up_to-position 1 (length p.source.template) last event rising (omega (arith, within_event)) ∙ ap (λ (k : ℕ). take k event) next in
        same_first (position_at event last) p.max_data (length p.source.template) event other (omega (arith, within_event)) up_to_is (subst (λ r. AgreeUpTo r event other) reach_is agree) other_rising

    where_short : length (cut p event) ≤ kept_len p (cut p event) → (length (cut p event) ≡ p.max_data → ⊥) → cut p other ≡ cut p event
    where_short held more =
        let t = length p.source.template in
        let reach_is : reach_of p (cut p event) ≡ t = reach_where_held p (cut p event) held ∙ reach_where_short p (cut p event) more in
        let agree_t : AgreeUpTo t event other = subst (λ r. AgreeUpTo r event other) reach_is agree in
        ap (take p.max_data) (sym (up_to-last 1 t other other_rising) ∙ sym agree_t ∙ up_to-last 1 t event rising)

-- the reach is no more than the length of the template
pub reach-le : (p : Plan) (event : List Datum) → RisesFrom 1 (length p.source.template) event → 1 ≤ p.max_data → reach p event ≤ length p.source.template
unfolding reach
reach-le p event rising some =
    elim (cases_lt (kept_len p first) (length first)) [
      | inl dropped ↦ omega (arith, reach_where_dropped p first dropped, (position_at-le 1 t (kept_len p first) first first_rises dropped).1)
      | inr held ↦ elim (cases_eq (length first) p.max_data) [
        | inl full ↦ omega (arith, reach_where_held p first held, reach_where_full p first full, (position_at-le 1 t (p.max_data - 1) first first_rises (omega (arith, full))).1)
        | inr more ↦ omega (arith, reach_where_held p first held, reach_where_short p first more)
      ]
    ]
  where
    t : ℕ
    t = length p.source.template

    first : List Datum
    first = cut p event

    first_rises : RisesFrom 1 t first
    first_rises = RisesFrom-take 1 t p.max_data event rising

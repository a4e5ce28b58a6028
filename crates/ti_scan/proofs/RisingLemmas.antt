-- Data at rising positions.
use Rattle.std.proofs.Common.{◌≡◌, ℕ, suc, ◌+◌, ◌<◌, ◌≤◌, List, [], ◌∷◌, ◌++◌, length, take, get_or, zero, arith}
use Rattle.ti_scan.specs.declared.event.Datum.{Datum}
use Rattle.ti_scan.specs.Rising.{RisesFrom, next_from}

pub length-next_from : (least last : ℕ) (event : List Datum) → RisesFrom least last event → length event + least ≤ next_from least event
length-next_from least last [] rising = omega arith
length-next_from least last (d ∷ event) rising = omega (arith, rising.0, length-next_from (suc d.position) last event rising.2)

pub RisesFrom-push : (least last : ℕ) (event : List Datum) (d : Datum) → RisesFrom least last event → next_from least event ≤ d.position → d.position ≤ last → RisesFrom least last (event ++ d ∷ [])
RisesFrom-push least last [] d rising after within = (after, within, tt)
RisesFrom-push least last (e ∷ event) d rising after within = (rising.0, rising.1, RisesFrom-push (suc e.position) last event d rising.2 after within)

-- a prefix rises as well
pub RisesFrom-take : (least last n : ℕ) (event : List Datum) → RisesFrom least last event → RisesFrom least last (take n event)
RisesFrom-take least last zero event rising = tt
RisesFrom-take least last (suc n) [] rising = tt
RisesFrom-take least last (suc n) (d ∷ event) rising = (rising.0, rising.1, RisesFrom-take (suc d.position) last n event rising.2)

pub RisesFrom-wider : (least last wider : ℕ) (event : List Datum) → last ≤ wider → RisesFrom least last event → RisesFrom least wider event
RisesFrom-wider least last wider [] more rising = tt
RisesFrom-wider least last wider (d ∷ event) more rising = (rising.0, omega (arith, rising.1), RisesFrom-wider (suc d.position) last wider event more rising.2)

-- each position is from least to last
pub RisesFrom-at : (least last i : ℕ) (event : List Datum) (d : Datum) → RisesFrom least last event → i < length event → (least ≤ (get_or event i d).position) × ((get_or event i d).position ≤ last)
RisesFrom-at least last i [] d rising in_list = absurd (omega arith)
RisesFrom-at least last zero (e ∷ event) d rising in_list = (rising.0, rising.1)
RisesFrom-at least last (suc i) (e ∷ event) d rising in_list =
    let rest = RisesFrom-at (suc e.position) last i event d rising.2 (omega arith) in
    (omega (arith, rising.0, rest.0), rest.1)

-- the next datum may follow those before it
pub next_from-take : (least last i : ℕ) (event : List Datum) (d : Datum) → RisesFrom least last event → i < length event → next_from least (take i event) ≤ (get_or event i d).position
next_from-take least last i [] d rising in_list = absurd (omega arith)
next_from-take least last zero (e ∷ event) d rising in_list = rising.0
next_from-take least last (suc i) (e ∷ event) d rising in_list = next_from-take (suc e.position) last i event d rising.2 (omega arith)

pub next_from-le : (least last : ℕ) (event : List Datum) → least ≤ suc last → RisesFrom least last event → next_from least event ≤ suc last
next_from-le least last [] le rising = le
next_from-le least last (d ∷ event) le rising = next_from-le (suc d.position) last event (omega (arith, rising.1)) rising.2

-- the position of a datum that a loop over the event reads
pub position_read : (last i : ℕ) (event items : List Datum) (d : Datum) → items ≡ event → RisesFrom 1 last event → i < length items → d ≡ get_or items i d → (1 ≤ d.position) × (d.position ≤ last)
position_read last i event items d same rising in_list is =
    let at = RisesFrom-at 1 last i items d (rw same rising) in_list in
    (rw is at.0, rw is at.1)

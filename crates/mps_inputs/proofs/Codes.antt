-- The codes of categories that parameters have.
use Rattle.std.proofs.Common.{◌≡◌, ◌≢◌, ℤ, Bool, true, false, not, ◌||◌, List, [], ◌∷◌, refl, sym, ◌∙◌, arith}
use Rattle.std.specs.List.{All, AllPairs, Contains}
use Rattle.std.specs.Ordering.{int_eq}
use Rattle.std.proofs.lemmas.Bool.{and_parts, false≢true}
use Rattle.std.proofs.lemmas.Bool.Decides.{Decides-int_eq}
use Rattle.std.proofs.lemmas.List.Elements.{All-cons, All-contains}
use Rattle.std.proofs.lemmas.List.Kept.{AllPairs-cons}
use Rattle.mp_values.specs.Values.{are_distinct, is_code}

neither : (a b : Bool) → a || b ≡ false → (a ≡ false) × (b ≡ false)
neither true b none = absurd (false≢true (sym none))
neither false b none = (refl, none)

not_so : (b : Bool) → not b ≡ true → b ≡ false
not_so true is = absurd (false≢true is)
not_so false is = refl

-- a code that isn't among others differs from each
apart : (code : ℤ) (codes : List ℤ) → is_code code codes ≡ false → All (λ other. code ≢ other) codes
apart code [] none = λ k d within. absurd (omega arith)
apart code (other ∷ codes) none =
    let parts = neither (int_eq other code) (is_code code codes) none in
    All-cons (λ o. code ≢ o) other codes (λ same. false≢true (sym parts.0 ∙ (Decides-int_eq other code).1 (sym same))) (apart code codes parts.1)

pub distinct : (codes : List ℤ) → are_distinct codes ≡ true → AllPairs (λ a b. a ≢ b) codes
distinct [] is = λ i j d before within same. absurd (omega arith)
distinct (code ∷ codes) is =
    let parts = and_parts (not (is_code code codes)) (are_distinct codes) is in
    AllPairs-cons (λ a b. a ≢ b) code codes (apart code codes (not_so (is_code code codes) parts.0)) (distinct codes parts.1)

pub unlisted : (code : ℤ) (codes : List ℤ) → is_code code codes ≡ false → Contains codes code → ⊥
unlisted code codes none has = All-contains (λ other. code ≢ other) codes code (apart code codes none) has refl

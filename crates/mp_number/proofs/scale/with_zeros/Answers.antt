use Rattle.std.proofs.Common.{◌≡◌, ◌+◌, ◌-◌, ◌*◌, ◌^◌, ◌≤◌, ◌<◌, ℕ, min, arith, ap, ◌∙◌}
use Rattle.std.proofs.Math.Nat.{le-mul_of_pos_right}
use Rattle.std.proofs.lemmas.Nat.{pow-add}
use Rattle.mp_number.proofs.Sizes.{pow-some}
use Rattle.mp_number.proofs.scale.with_zeros.Goals as goal
use Rattle.mp_number.proofs.scale.with_zeros.Goals.{then-total-eq0-via-then-total-eq0, then-total-eq0-via-else-total-eq0+then-total-limit}

-- at 0 or above the cap more zeros change nothing
settled : (cap n i z t : ℕ) → t ≡ min cap (n * 10 ^ i) → i ≤ z → 0 < cap → (t ≡ 0 → min cap (n * 10 ^ i) ≡ min cap (n * 10 ^ z)) × (cap ≤ t → min cap (n * 10 ^ i) ≡ min cap (n * 10 ^ z))
settled cap n i z t is within some =
    let m : ℕ = n * 10 ^ i in
    let k : ℕ = 10 ^ (z - i) in
    let all : n * 10 ^ z ≡ m * k = ap (λ e. n * 10 ^ e) (omega arith) ∙ ap (λ p. n * p) (pow-add 10 i (z - i)) ∙ omega arith in (
      λ none. let gone : m ≡ 0 = omega arith in let still : m * k ≡ 0 = ap (λ e. e * k) gone ∙ omega arith in omega arith,
      λ full. let more : m ≤ m * k = le-mul_of_pos_right m (pow-some (z - i)) in omega arith,
    )

pub returns-then-total-eq0 : goal.returns-then-total-eq0
returns-then-total-eq0 c =
    let s = settled (c.args.limit + 1) c.args.number c.loop.counter c.args.zeros c.loop.total c.loop.invariant (omega arith) (omega arith) in
    c.loop.invariant ∙ elim c.then-total-eq0.branch [
      | then-total-eq0-via-then-total-eq0 w ↦ s.0 w.if-total-eq0.true
      | then-total-eq0-via-else-total-eq0+then-total-limit w ↦ s.1 (omega arith)
    ]

pub loop-preserved : goal.loop-preserved
loop-preserved c =
    let n = c.args.number in
    let i = c.loop.counter in
    let more : n * 10 ^ (i + 1) ≡ n * 10 ^ i * 10 = ap (λ p. n * p) (pow-add 10 i 1) ∙ omega arith in
    omega (arith, more)

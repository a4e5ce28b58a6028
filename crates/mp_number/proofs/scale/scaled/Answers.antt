use Rattle.std.proofs.Common.{◌≡◌, ◌+◌, ◌-◌, ◌*◌, ◌/◌, ◌%◌, ◌^◌, ◌++◌, ◌↔◌, IsTrue, length, min, ap, subst, arith, sym, ◌∙◌}
use Rattle.std.specs.Str.Parse.{digits_value}
use Rattle.mp_number.specs.Number.{numerator, denominator}
use Rattle.mp_number.proofs.Sizes.{over_right, over_left, pow-some, times_zero}
use Rattle.mp_number.proofs.scale.scaled.Goals as goal

pub returns-then-left-right-clause-whole : goal.returns-then-left-right-clause-whole
returns-then-left-right-clause-whole c =
    let n = c.number.inside in
    let p = c.args.places in
    let d = digits_value 10 (n.whole.now ++ n.fraction.now) in
    let o = over_right d n.moves.right p n.moves.left (length n.fraction.now) (n.moves.right + p - n.moves.left) (omega arith) in
    subst (λ s. c.moved_right.result.whole ≡ min (c.args.limit + 1) (numerator s * 10 ^ p / denominator s)) c.number.view_is (c.moved_right.ensures.whole ∙ ap (min (c.args.limit + 1)) (sym o.quotient))

pub returns-then-left-right-clause-exact : goal.returns-then-left-right-clause-exact
returns-then-left-right-clause-exact c =
    let n = c.number.inside in
    let p = c.args.places in
    let d = digits_value 10 (n.whole.now ++ n.fraction.now) in
    let o = over_right d n.moves.right p n.moves.left (length n.fraction.now) (n.moves.right + p - n.moves.left) (omega arith) in
    let t = times_zero (d * 10 ^ (n.moves.right + p - n.moves.left) % 10 ^ length n.fraction.now) (10 ^ n.moves.left) (pow-some n.moves.left) in
    subst (λ s. IsTrue c.moved_right.result.exact ↔ (numerator s * 10 ^ p % denominator s ≡ 0)) c.number.view_is
    (λ exact. o.left ∙ t.0 (c.moved_right.ensures.exact.0 exact), λ none. c.moved_right.ensures.exact.1 (t.1 (sym o.left ∙ none)))

pub returns-else-left-right-clause-whole : goal.returns-else-left-right-clause-whole
returns-else-left-right-clause-whole c =
    let n = c.number.inside in
    let p = c.args.places in
    let d = digits_value 10 (n.whole.now ++ n.fraction.now) in
    let o = over_left d n.moves.right p n.moves.left (length n.fraction.now) (n.moves.left - (n.moves.right + p)) (omega arith) in
    subst (λ s. c.moved_left.result.whole ≡ min (c.args.limit + 1) (numerator s * 10 ^ p / denominator s)) c.number.view_is (c.moved_left.ensures.whole ∙ ap (min (c.args.limit + 1)) (sym o.quotient))

pub returns-else-left-right-clause-exact : goal.returns-else-left-right-clause-exact
returns-else-left-right-clause-exact c =
    let n = c.number.inside in
    let p = c.args.places in
    let d = digits_value 10 (n.whole.now ++ n.fraction.now) in
    let s = n.moves.left - (n.moves.right + p) in
    let o = over_left d n.moves.right p n.moves.left (length n.fraction.now) s (omega arith) in
    let t = times_zero (d % 10 ^ (length n.fraction.now + s)) (10 ^ (n.moves.right + p)) (pow-some (n.moves.right + p)) in
    subst (λ v. IsTrue c.moved_left.result.exact ↔ (numerator v * 10 ^ p % denominator v ≡ 0)) c.number.view_is
    (λ exact. o.left ∙ t.0 (c.moved_left.ensures.exact.0 exact), λ none. c.moved_left.ensures.exact.1 (t.1 (sym o.left ∙ none)))

use Rattle.std.proofs.Common.{◌≡◌, ◌≢◌, ◌<◌, Some, length, subst, ap}
use Rattle.std.specs.List.{All, HoldsAt}
use Rattle.template_order.proofs.Positions.{nowhere, here, only_here}
use Rattle.template_order.proofs.template.Template.position_of.Goals as goal

pub returns-in_err-index-clause-inverse : goal.returns-in_err-index-clause-inverse
returns-in_err-index-clause-inverse c = λ p.
    let t = c.args.self.now in
    let missing = subst (All (λ w. w ≢ c.args.v)) c.vectors.ensures.vectors c.in_err-index.ensures.missing in
    (λ e. cc, λ e. absurd (nowhere t c.args.v p missing e))

pub returns-clause-inverse : goal.returns-clause-inverse
returns-clause-inverse c = λ p.
    let t = c.args.self.now in
    let i = c.in_ok-index.index in
    let within = subst (λ xs. i < length xs) c.vectors.ensures.vectors c.in_ok-index.ensures.found.0 in
    let found = subst (λ xs. HoldsAt (λ w. w ≡ c.args.v) xs i) c.vectors.ensures.vectors c.in_ok-index.ensures.found.1 in
    (λ e. here t c.args.v i p within found cc, λ e. ap Some (only_here t c.args.v i p c.vectors.ensures.template.apart within found e))

-- The worker of a number, by the place where it stands.
use Rattle.std.proofs.Common.{arith, ◌≡◌, ℕ, suc, ◌<◌, ◌≤◌, length, get_or, set, slice_get, Some, IfSome, refl, ap, sym, ◌∙◌}
use Rattle.std.proofs.lemmas.Option.{slice_get_read}
use Rattle.event_retrieve.specs.Offer.{IsSound}
use Rattle.event_retrieve.specs.Plan.{Plan, nodes_in}
use Rattle.spec_steps.specs.declared.answer.Answer.{Answer}
use Rattle.spec_core.specs.declared.worker.Worker.{Worker}
use Rattle.spec_core.specs.declared.worker.Worker.TheVariants.{Idle, Claimed, Looking, Counted}
use Rattle.spec_core.specs.Worker.{IsReady, offer_in}
use Rattle.spec_core.specs.World.{FitsPlan, FitsWorker, Machine, after_own, answer_by, machine, with_worker, worker_of}

module _ (m : Machine) (n place : ℕ) (w : Worker) (number : n ≡ suc place) (inside : place < length m.workers) (read : w ≡ get_or m.workers place w) where
  -- it is that one
  stands : slice_get m.workers place ≡ Some w
  stands = slice_get_read m.workers (length m.workers) place w refl inside read

  here : worker_of m n ≡ Some w
  here = ap (worker_of m) number ∙ stands

  pub answer_here : (own : Worker → Answer) → own w ≡ answer_by (worker_of m n) own
  answer_here own = sym (ap (λ o. answer_by o own) here)

  pub own_here : (own : Worker → Worker) → machine m.board m.shown (set m.workers place (own w)) ≡ after_own m n (worker_of m n) own
  own_here own = sym (ap (λ o. after_own m n o own) here ∙ ap (λ k. with_worker m k (own w)) number)

  pub fits_here : (p : Plan) → FitsPlan p m → FitsWorker p m.board.next m.shown w
  fits_here p fits = fits.workers place w stands

-- a worker that fits can go on
pub ready : (p : Plan) (next shown : ℕ) (w : Worker) → next ≤ nodes_in p → FitsWorker p next shown w → IsReady p w
ready p next shown Idle within fits = tt
ready p next shown (Claimed i) within fits = tt
ready p next shown (Looking seen g) within fits = record { in_path = omega (arith, fits.claimed); before = fits.before; last = fits.last }
ready p next shown (Counted o) within fits = tt

-- what a worker that fits has counted is sound
pub offer_sound : (p : Plan) (next shown : ℕ) (w : Worker) → FitsWorker p next shown w → IfSome (offer_in w) (IsSound p)
offer_sound p next shown Idle fits = tt
offer_sound p next shown (Claimed i) fits = tt
offer_sound p next shown (Looking seen g) fits = tt
offer_sound p next shown (Counted o) fits = fits.sound

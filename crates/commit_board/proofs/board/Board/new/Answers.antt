use Rattle.std.proofs.Common.{arith, ◌≡◌, ℕ, ◌+◌, sym, ap, ◌∙◌, length, replicate, None, Some, []}
use Rattle.std.proofs.lemmas.List.{length-replicate}
use Rattle.event_retrieve.specs.declared.offer.Offer.{Offer}
use Rattle.mp_base.specs.Cells.{category_counts}
use Rattle.event_retrieve.specs.Plan.{grid_at, nodes_in}
use Rattle.event_retrieve.specs.Sequential.{log_of}
use Rattle.commit_board.specs.Board.{IsBoard, state, offer_in}
use Rattle.commit_board.proofs.Slots.{offer_in_empty}
use Rattle.commit_board.proofs.board.Board.new.Goals as goal

module _ (c : goal.After-new) where
  slots_are : c.loop.slots.items ≡ replicate c.args.window None
  slots_are = let all : c.loop.counter ≡ c.args.window = omega (arith, c.loop-test.false, c.loop.auto.counter-end) in c.loop.invariant ∙ ap (λ n. replicate n None) all

  nothing_kept : (j : ℕ) (o : Offer) → offer_in c.loop.slots.items j ≡ Some o → ⊥
  nothing_kept j o is = offer_in_empty c.args.window j o (ap (λ l. offer_in l j) (sym slots_are) ∙ is)

  log_empty : c.in_ok-log.log.items ≡ []
  log_empty = c.in_ok-log.ensures.items

board_of : (c : goal.After-new) → IsBoard (state c.length-nodes.result c.args.window 0 c.in_ok-log.log.items c.start_counts.result c.loop.slots.items c.new.result)
board_of c =
    let none : length c.in_ok-log.log.items ≡ 0 = ap length (log_empty c) in
    record {
      behind = omega (arith, none);
      inside = omega arith;
      ahead = omega arith;
      slots = ap length (slots_are c) ∙ length-replicate c.args.window None;
      window_some = c.requires.window.0;
      nodes_few = omega (arith, c.length-nodes.ensures.value, c.length-nodes.ensures.plan.short);
      kept = λ j o is. absurd (nothing_kept c j o is);
    }

pub invariant_of-result : goal.invariant_of-result
invariant_of-result c = (board_of c, omega (arith, c.in_ok-log.ensures.exact))

pub returns-clause-board : goal.returns-clause-board
returns-clause-board c = board_of c

pub returns-clause-fits : goal.returns-clause-fits
unfolding log_of
returns-clause-fits c =
    let p = c.args.plan.now in
    record {
      whole = c.length-nodes.ensures.value;
      prefix = log_empty c ∙ sym (ap (λ l. log_of p (length l)) (log_empty c));
      known = c.start_counts.ensures ∙ sym (ap (λ l. category_counts p.source.cats (grid_at p l (length l)).cells) (log_empty c));
      words =
          let first : length p.path ≡ nodes_in p + length c.in_ok-log.log.items = omega (arith, ap length (log_empty c)) in
          c.new.ensures ∙ c.draw_words.ensures ∙ ap (λ (n : ℕ). record { seed = p.seed; number = p.stream; place = n }) first;
      sound = λ j o is. absurd (nothing_kept c j o is);
    }

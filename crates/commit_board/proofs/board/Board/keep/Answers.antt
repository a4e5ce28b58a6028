use Rattle.std.proofs.Common.{◌-◌, sym, subst, inl, inr}
use Rattle.event_retrieve.specs.Offer.{IsSound}
use Rattle.commit_board.specs.Board.{Fits}
use Rattle.commit_board.proofs.Slots.{offer_in_set}
use Rattle.commit_board.proofs.board.Board.keep.Goals as goal

pub returns-clause-fits : goal.returns-clause-fits
returns-clause-fits c = λ p fits sound.
    let was = subst (Fits p) (sym c.self.view_is) fits in
    record {
      whole = was.whole;
      prefix = was.prefix;
      known = was.known;
      words = was.words;
      sound = λ j o is. elim (offer_in_set c.self.inside.slots.items (c.args.offer.index - c.front-front.result) j c.args.offer o is) [
        | inl here ↦ subst (IsSound p) (sym here.1) sound
        | inr before ↦ was.sound j o before
      ];
    }

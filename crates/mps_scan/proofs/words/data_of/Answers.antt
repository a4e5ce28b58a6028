use Rattle.std.proofs.Common.{ap, sym, ◌∙◌}
use Rattle.mps_scan.specs.Coded.{positions_rise}
use Rattle.mps_scan.specs.Words.{data_in}
use Rattle.mps_scan.proofs.Parts.{read_first, read_more, read_none, read_last, split_more}
use Rattle.mps_scan.proofs.words.data_of.Goals as goal

pub loop-part-init : goal.loop-part-init
loop-part-init c = record {
  reads = read_first c.args.word.now c.empty-event.result c.empty-event.ensures;
  rise = ap (positions_rise 1) c.empty-event.ensures;
}

pub returns-then-not-push_part : goal.returns-then-not-push_part
returns-then-not-push_part c =
    let split = split_more c.loop-part.rest.now c.in-Some.part.now c.in-Some.more.now c.in-Some.ensures.some c.in-Some.ensures.before c.in-Some.ensures.behind in
    read_none (data_in c.args.word.now) c.loop-part.event c.loop-part.rest.now c.loop-part.invariant.rise c.loop-part.invariant.reads c.in-Some.part.now c.in-Some.more.now split c.if-not-push_part.ensures.part

pub loop-part-preserved : goal.loop-part-preserved
loop-part-preserved c =
    let split = split_more c.loop-part.rest.now c.in-Some.part.now c.in-Some.more.now c.in-Some.ensures.some c.in-Some.ensures.before c.in-Some.ensures.behind in
    record {
      reads = read_more (data_in c.args.word.now) c.loop-part.event c.loop-part.rest.now c.loop-part.invariant.rise c.loop-part.invariant.reads c.in-Some.part.now c.in-Some.more.now c.push_part.new.event split c.if-not-push_part.ensures.part;
      rise = c.push_part.ensures.rise;
    }

pub returns-then-push_part : goal.returns-then-push_part
returns-then-push_part c =
    sym c.if-push_part.ensures.part ∙ read_last (data_in c.args.word.now) c.loop-part.event c.loop-part.rest.now c.loop-part.invariant.rise c.loop-part.invariant.reads c.in_default.ensures.none

pub returns-else-push_part : goal.returns-else-push_part
returns-else-push_part c =
    sym c.if-push_part.ensures.part ∙ read_last (data_in c.args.word.now) c.loop-part.event c.loop-part.rest.now c.loop-part.invariant.rise c.loop-part.invariant.reads c.in_default.ensures.none

use Rattle.std.proofs.Common.{◌≡◌, true, map, take}
use Rattle.std.specs.List.{list_all}
use Rattle.mps_scan.specs.Coded.{IsCoded}
use Rattle.mps_scan.specs.Words.{decoded, is_datum}
use Rattle.mps_scan.proofs.fit.fitting_event.Given as goal

abbrev pub invariant-loop-coded : goal.invariant-loop-coded
invariant-loop-coded l = record {
  items : l.coded-items ≡ l.words.event;
  coded : IsCoded l.coded-items;
  event : l.event ≡ map (decoded l.categories) (take l.coded-index l.coded-items);
  all : list_all (is_datum l.template_len l.categories) (take l.coded-index l.coded-items) ≡ true;
}

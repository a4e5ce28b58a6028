use Rattle.std.proofs.Common.{◌≤◌, ◌^◌, ◌∙◌, length, ap, arith}
use Rattle.pattern_store.specs.Levels.{many}
use Rattle.pattern_store.proofs.Longer.{distinct_places}
use Rattle.pattern_store.proofs.Standing.{built-is-store, built-stands}
use Rattle.impala_list.proofs.Ranks.{places_alike, places_below}
use Rattle.impala_list.proofs.list.listed.Goals as goal

pub invariant_of-result : goal.invariant_of-result
invariant_of-result c =
    let s = c.args.eroded.now in
    let ranking = c.args.ranking in
    let few : many s ≤ 2 ^ 20 = omega (arith, ap length c.positions.ensures.positions, c.positions.ensures.few) in
    let alike = places_alike s c.args._keys.now ranking.places.items ranking.classes c.requires.count c.requires.ranked (length s.template) c.requires.alike in
    let below = places_below s c.args._keys.now ranking.places.items ranking.classes c.requires.count c.requires.ranked in
    built-is-store s c.positions.ensures.source few ranking.places.items ranking.classes c.args.groups alike below c.requires.room c.requires.few c.args.blocks.shown c.args.blocks.counts c.requires.built

pub returns-clause-stands : goal.returns-clause-stands
returns-clause-stands c =
    let s = c.args.eroded.now in
    let ranking = c.args.ranking in
    let few : many s ≤ 2 ^ 20 = omega (arith, ap length c.positions.ensures.positions, c.positions.ensures.few) in
    let alike = places_alike s c.args._keys.now ranking.places.items ranking.classes c.requires.count c.requires.ranked (length s.template) c.requires.alike in
    let below = places_below s c.args._keys.now ranking.places.items ranking.classes c.requires.count c.requires.ranked in
    let stands = built-stands s c.positions.ensures.source few ranking.places.items ranking.classes c.args.groups alike below c.requires.room c.requires.few c.args.blocks.shown c.args.blocks.counts c.requires.built in
    record {
      reach = stands.reach;
      counts = stands.counts;
    }

pub returns-clause-entries : goal.returns-clause-entries
returns-clause-entries c =
    let s = c.args.eroded.now in
    c.requires.ranked.many ∙ distinct_places s (length s.template) c.args._keys.now c.requires.count c.requires.alike

use Rattle.std.proofs.Common.{ℕ, List, ◌++◌, take, drop, length, ap, sym, ◌∙◌, subst}
use Rattle.std.specs.List.{dedup}
use Rattle.std.specs.List.Sorted.{IsPermutation}
use Rattle.std.proofs.Math.Dec.{eqb}
use Rattle.std.proofs.lemmas.List.Filters.{dedup_is}
use Rattle.impala_list.specs.Ranking.{AreDistinct}
use Rattle.impala_list.proofs.Ranks.{are_distinct}
use Rattle.pattern_store.proofs.Lists.{written_over}
use Rattle.impala_list.proofs.ranking.distinct_of.Goals as goal

pub returns : goal.returns
returns g c =
    let keys = c.args.keys.now in
    let old = c.in_ok-distinct.distinct in
    let new = c.par_sort_unstable.new.s in
    let moved = subst (λ (l : List ℕ). IsPermutation l new) (c.deref_mut.ensures.value ∙ c.in_ok-distinct.ensures.items) c.par_sort_unstable.ensures.permutation in
    let sorted = written_over old.items new old.len (c.par_sort_unstable.ensures.len ∙ c.deref_mut.ensures.len) in
    let left = dedup_is eqb (take old.len (new ++ drop (length new) old.items)) c.dedup.new.self.items c.dedup.ensures.filtered ∙ ap (dedup eqb) sorted in
    subst (AreDistinct keys) (sym left) (are_distinct keys new moved c.par_sort_unstable.ensures.sorted)

use Rattle.std.proofs.Common.{◌∷◌, [], map, sym, ap, ◌∙◌, subst}
use Rattle.atomic_table.specs.Table.{opening}
use Rattle.shared_grid.specs.declared.rule.View.TheVariants.{Writes}
use Rattle.shared_grid.specs.Rule.{IsKept, word_of}
use Rattle.shared_grid.proofs.Steps.{begins}
use Rattle.shared_grid.proofs.Found.{start_bytes}
use Rattle.shared_grid.proofs.grid.Cells.new.Goals as goal

pub of_words-requires : goal.of_words-requires
of_words-requires g c =
    let p = g.N.Naming.plan in
    let story = g.N.Naming.story in
    let is = c.as_slice.ensures.value ∙ c.in_ok-words.ensures.words ∙ ap (λ f. 0 ∷ map word_of f.cells) c.requires.start in
    subst (λ ws. IsKept p story (opening ws [] (Writes 0 0))) (sym is)
    (begins p story c.requires.plan.path c.requires.story (start_bytes p.start.cells c.requires.plan.start.cats))

use Rattle.std.proofs.Common.{rules, ◌≡◌, ◌+◌, ◌++◌, ◌∙◌, ap, subst, map, filter, OnOk, List, ℕ, Option}
use Rattle.std.specs.List.{range_with_len}
use Rattle.mp_base.specs.Grid.{category_of}
use Rattle.ti_scan.specs.Eroded.{is_eroded}
use Rattle.ti_scan.proofs.Blocks.{cells_marked_are, categories_marked_are}
use Rattle.ti_scan.proofs.erosion.push_block.Goals as goal

pub returns-clause-positions : goal.returns-clause-positions
returns-clause-positions c =
    let image = c.args.ground.now.image.now in
    let template = c.args.ground.now.vectors.now in
    let from = c.args.ground.now.span.first + c.args.start in
    let are = cells_marked_are image template from 4096 c.args.len c.keep_eroded.new.marks c.requires.few c.keep_eroded.ensures in
    let is : c.push_marked.new.cells.items ≡ c.args.positions.now.items ++ filter (is_eroded image template) (range_with_len from c.args.len) =
    c.in_ok-push_marked.ensures ∙ ap (λ l. c.args.positions.now.items ++ l) are in
    search rules

pub returns-clause-centres : goal.returns-clause-centres
returns-clause-centres c =
    let image = c.args.ground.now.image.now in
    let template = c.args.ground.now.vectors.now in
    let from = c.args.ground.now.span.first + c.args.start in
    let are = categories_marked_are image template from 4096 c.args.len c.own_bytes.result.now c.keep_eroded.new.marks c.requires.few c.own_bytes.ensures c.keep_eroded.ensures in
    subst (λ (l : List (Option ℕ)). OnOk c.push_categories.result (map category_of c.push_categories.new.to.items ≡ map category_of c.args.centres.now.items ++ l)) are c.push_categories.ensures

use Rattle.std.proofs.Common.{◌≡◌, Some, length, map, take}
use Rattle.std.specs.List.{range_with_len}
use Rattle.mp_base.specs.Grid.{cells_of}
use Rattle.mps_demo.specs.Image.{category_of_cell, image_sides}
use Rattle.mps_demo.proofs.image.image_of.Given as goal

-- the cells so far
abbrev pub invariant-loop-number : goal.invariant-loop-number
invariant-loop-number l = record {
  sides : l.image.sides ≡ image_sides;
  count : length l.image.cells ≡ cells_of image_sides;
  front : take l.number l.image.cells ≡ map (λ c. Some (category_of_cell l.channels c)) (range_with_len 0 l.number);
}

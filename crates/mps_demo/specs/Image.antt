-- The training image: five channels, each a band that swings up and down along x.
use Rattle.std.specs.Prelude.{ℕ, ◌+◌, ◌-◌, ◌*◌, ◌/◌, ◌%◌, nat_le, nat_lt, Bool, if◌then◌else◌, List, map, Some}
use Rattle.std.specs.Int.{abs_diff}
use Rattle.std.specs.List.{list_any, range_with_len}
use Rattle.mp_base.specs.Grid.{Field, Sides, cells_of, field, x_of, y_of}
use Rattle.mps_demo.specs.Drawn.{drawn}
use Rattle.mps_demo.specs.declared.channels.Channel.{Channel}

-- One channel.

-- the middle of channel j: the middles are 50 apart, each moved by -5 to 5
abbrev pub middle_of : ℕ → ℕ → ℕ
middle_of seed j = 25 + 50 * j + drawn 11 seed (2 * j + 1) - 5

-- channel j: how far along its wave it begins, and where its centre is lowest, 12 below its middle
abbrev pub channel_of : ℕ → ℕ → Channel
channel_of seed j = record { phase = drawn 100 seed (2 * j); lowest = middle_of seed j - 12 }

-- the height of a wave at a place along it: up for 50 cells, and down for 50
abbrev pub height_at : ℕ → ℕ
height_at along = if nat_lt along 50 then along else 100 - along

-- the y of a channel's centre in a column: half the height of its wave above its lowest
abbrev pub centre_at : ℕ → Channel → ℕ
centre_at x channel = channel.lowest + height_at ((x + channel.phase) % 100) / 2

-- The image.

-- the five channels of a seed
abbrev pub channels_of : ℕ → List Channel
channels_of seed = map (channel_of seed) (range_with_len 0 5)

-- the centres of the channels in a column
abbrev pub centres_at : List Channel → ℕ → List ℕ
centres_at channels x = map (centre_at x) channels

-- a cell is in a channel: its y is at most 3 from a centre of its column
abbrev pub is_in : List ℕ → ℕ → Bool
is_in centres y = list_any (λ centre. nat_le (abs_diff y centre) 3) centres

-- the category of a cell: 1 in a channel, and else 0
abbrev pub category_in : List ℕ → ℕ → ℕ
category_in centres y = if is_in centres y then 1 else 0

-- a flat square
unfoldable pub image_sides : Sides
image_sides = record { nx = 250; ny = 250; nz = 1 }

-- the category of a cell, by its number
abbrev pub category_of_cell : List Channel → ℕ → ℕ
category_of_cell channels c = category_in (centres_at channels (x_of image_sides c)) (y_of image_sides c)

-- the image of these channels
unfoldable pub image_of : List Channel → Field
image_of channels = field image_sides (map (λ c. Some (category_of_cell channels c)) (range_with_len 0 (cells_of image_sides)))

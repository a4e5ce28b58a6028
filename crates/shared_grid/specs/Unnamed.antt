-- What nobody chose.
use Rattle.std.specs.Prelude.{[]}
use Rattle.atomic_table.specs.Seated.{TableId}
use Rattle.mp_base.specs.Grid.{Field, field}
use Rattle.ti_scan.specs.Event.{Source}
use Rattle.event_retrieve.specs.Plan.{Plan, plan}

abbrev pub no_grid : Field
no_grid = field (record { nx = 0; ny = 0; nz = 0 }) []

abbrev pub no_source : Source
no_source = record { image = no_grid; template = []; cats = 0 }

abbrev pub no_plan : Plan
no_plan = plan 1 no_source no_grid [] 0 0 [] 0 0 0

abbrev pub no_words : TableId
no_words = record { words = 0; slots = 0; views_name = 0; atom = 0; block = 0; offset = 0; slot_names = [] }

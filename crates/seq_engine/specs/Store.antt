-- Stores of counts of each kind.
use Rattle.std.specs.Prelude.{ℕ, ◌≤◌, List, length, take}
use Rattle.std.specs.List.{sum}
use Rattle.ti_scan.specs.declared.event.Datum.{Datum}
use Rattle.ti_scan.specs.Event.{counts_of}
use Rattle.ti_scan.specs.Growing.{total-take-le}
use Rattle.pattern_store.specs.Falling.{patterns-fall}
use Rattle.search_tree.specs.Tree.{tree_bits, tree_counts, tree_reach}
use Rattle.impala_list.specs.List.{list_bits, list_counts, list_reach}
use Rattle.seq_engine.specs.declared.built.BuiltStore.{BuiltStore}
use Rattle.seq_engine.specs.declared.built.BuiltStore.TheVariants.{Tree as BuiltTree, List as BuiltList}
use Rattle.seq_engine.specs.declared.stores.Store.{Store}
use Rattle.seq_engine.specs.declared.stores.Store.TheVariants.{Scan, Tree as TreeStore, List as ListStore}

-- what a store answers for an event
abbrev pub store_counts : Store → List Datum → List ℕ
store_counts (Scan eroded) event = counts_of eroded.now event
store_counts (TreeStore tree) event = tree_counts tree.now event
store_counts (ListStore list) event = list_counts list.now event

-- the length of its template
abbrev pub store_reach : Store → ℕ
store_reach (Scan eroded) = length eroded.now.template
store_reach (TreeStore tree) = tree_reach tree.now
store_reach (ListStore list) = list_reach list.now

-- a longer prefix of an event has no more replicates
pub store-falls : (store : Store) (event : List Datum) (m k : ℕ) → m ≤ k → sum (store_counts store (take k event)) ≤ sum (store_counts store (take m event))
store-falls (Scan eroded) event m k le = total-take-le eroded.now event m k le
store-falls (TreeStore tree) event m k le = patterns-fall tree.now.patterns event m k le
store-falls (ListStore list) event m k le = patterns-fall list.now.patterns event m k le

-- the same of a store that was built, and how many bits say what its patterns show
abbrev pub built_counts : BuiltStore → List Datum → List ℕ
built_counts (BuiltTree tree) event = tree_counts tree event
built_counts (BuiltList list) event = list_counts list event

abbrev pub built_reach : BuiltStore → ℕ
built_reach (BuiltTree tree) = tree_reach tree
built_reach (BuiltList list) = list_reach list

abbrev pub built_bits : BuiltStore → ℕ
built_bits (BuiltTree tree) = tree_bits tree
built_bits (BuiltList list) = list_bits list

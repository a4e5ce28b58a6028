-- How replicates are counted, by the parameter `store`.
use Rattle.mp_values.specs.declared.choice.StoreChoice.{StoreChoice}
use Rattle.mp_values.specs.declared.choice.StoreChoice.TheVariants.{Tree, List as Listed}
use Rattle.seq_engine.specs.declared.stores.StoreKind.{StoreKind}
use Rattle.seq_engine.specs.declared.stores.StoreKind.TheVariants as kind

abbrev pub kind_of : StoreChoice → StoreKind
kind_of Tree = kind.Tree
kind_of Listed = kind.List

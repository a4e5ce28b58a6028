use Rattle.std.proofs.Common.{arith, ◌≡◌, Some}
use Rattle.std.specs.BTreeMap.{get_by_text}
use Rattle.std.proofs.lemmas.Map.Text.{text_keys}
use Rattle.mp_outside.proofs.memory.MemFilesFiles.append.Goals as goal

pub returns-clause-added : goal.returns-clause-added
returns-clause-added c =
    let before : get_by_text c.args.self.now.files c.args.name.now ≡ Some c.in-Some.file.now = grind (arith, text_keys) in
    let after : get_by_text (c.get_mut.follows.lender c.append_to.new.file) c.args.name.now ≡ Some c.append_to.new.file = grind (arith, text_keys) in
    rw (before, after) c.append_to.ensures.added

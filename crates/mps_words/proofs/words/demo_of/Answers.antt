use Rattle.std.proofs.Common.{◌∙◌, Some, None}
use Rattle.mps_words.specs.Forms.{demo_app}
use Rattle.mps_words.specs.Words.{texts}
use Rattle.mps_words.proofs.Reading.{are_texts, finds_at, demo_found, demo_same}
use Rattle.mps_words.proofs.words.demo_of.Goals as goal

pub returns-in-Some-clause-command : goal.returns-in-Some-clause-command
returns-in-Some-clause-command c =
    let words = c.args.words.now in
    let finds = finds_at demo_app _ (texts words) c.in_ok-found.field-0 (Some c.in-Some.found) c.in_ok-demo_form.ensures c.in-Some.is c.in_ok-found.ensures in
    c.demo_over.ensures.command ∙ demo_found words c.in-Some.found c.get_str.result c.get_flag.result finds c.get_str.ensures (c.get_flag.ensures.value, c.get_flag.ensures.other)

pub returns-in-None-clause-command : goal.returns-in-None-clause-command
returns-in-None-clause-command c =
    let words = c.args.words.now in
    let finds = finds_at demo_app _ (texts words) c.in_ok-found.field-0 None c.in_ok-demo_form.ensures c.in-None.is c.in_ok-found.ensures in
    (demo_same (texts words) (are_texts words)).0 finds

use Rattle.std.proofs.Common.{sym, ap, ◌∙◌, subst, string_bytes, vec_items}
use Rattle.std.specs.Prelude.{Option}
use Rattle.message.specs.Answers.{Gives}
use Rattle.envvars.specs.Texts.{Text}
use Rattle.module_collections.specs.files.Faults.{reason_of}
use Rattle.module_collections.specs.files.Found.{short}
use Rattle.module_collections.proofs.files.FoundLemmas.{bytes_led}
use Rattle.module_collections.proofs.files.read.read_bytes.Goals as goal

pub returns-in-Ok-clause-answer : goal.returns-in-Ok-clause-answer
returns-in-Ok-clause-answer g c = λ e b.
    let r = c.in-Ok.ensures.answer e b in
    let leads = c.in_ok-end.ensures.answer e (c.read.ensures.narrows e b) in
    subst (λ (o : Option Text). Gives reason_of vec_items c.short.result (short c.args.path.now o))
    (sym (bytes_led e c.args.path.now (string_bytes c.in_ok-end.end) r.0 leads (ap e (sym c.as_str.ensures.value) ∙ r.1)))
    (c.short.ensures.answer r.0 r.2)

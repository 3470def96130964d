use Rattle.std.proofs.Common.{Bool, true, ◌||◌, ap, ◌∙◌, string_bytes}
use Rattle.std.specs.Prelude.{bytes_eq}
use Rattle.std.specs.BTreeSet.{contains_text}
use Rattle.std.proofs.lemmas.Map.Text.{btree_set_updates_text}
use Rattle.envvars.specs.Texts.{Text}
use Rattle.envvars.proofs.TextLemmas.{bytes_eq-symmetric}
use Rattle.module_collections.proofs.files.ListLemmas.{or_cond}
use Rattle.module_collections.proofs.files.list.put_name.Goals as goal

pub returns-clause-added : goal.returns-clause-added
returns-clause-added c = λ q.
    let own = string_bytes c.in_ok-own.own in
    btree_set_updates_text own c.args.found.now c.insert.new.self true c.in_ok-insert.ensures.updates q
    ∙ (or_cond (bytes_eq own q) (contains_text c.args.found.now q)
    ∙ ap (λ (b : Bool). contains_text c.args.found.now q || b)
    (bytes_eq-symmetric own q ∙ ap (λ (t : Text). bytes_eq q t) c.in_ok-own.ensures.ok))

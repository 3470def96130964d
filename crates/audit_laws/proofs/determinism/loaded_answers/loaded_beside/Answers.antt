use Rattle.std.proofs.Common.{map, not, string_bytes}
use Rattle.std.specs.List.{list_any}
use Rattle.modulename.specs.ModuleName.{means}
use Rattle.envvars.specs.Texts.{texts_in}
use Rattle.audit_laws.proofs.determinism.Seen.{filter_more}
use Rattle.audit_laws.proofs.determinism.loaded_answers.loaded_beside.Goals as goal

pub loop-name-preserved : goal.loop-name-preserved
loop-name-preserved c =
    let others = map string_bytes c.args.others.now in
    filter_more (λ name. not (list_any (λ n. means n name) others)) string_bytes c.args.names.now c.loop-name.name-index c.name-item.result
    (texts_in c.loop-name.loaded) (texts_in c.push_unless_meant.new.loaded) c.loop-name-test.true c.name-item.is c.loop-name.invariant
    (rw c.as_str.ensures.value at c.in_ok-push_unless_meant.ensures)

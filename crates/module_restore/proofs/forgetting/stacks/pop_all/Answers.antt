use Rattle.std.proofs.Common.{List, map, string_bytes, String, subst}
use Rattle.std.specs.Prelude.{OnOk}
use Rattle.std.specs.declared.alloc.Global.{Global}
use Rattle.envvars.specs.Texts.{Text}
use Rattle.module_restore.specs.forgetting.Views.{ArePoppedFrom}
use Rattle.module_restore.proofs.forgetting.PopLemmas.{on_popped}
use Rattle.module_restore.proofs.forgetting.stacks.pop_all.Goals as goal

pub returns : goal.returns
returns c =
    let text : String Global → Text = λ s. string_bytes s in
    on_popped c.pop_from.result c.args.owner.now (map text c.in_ok-variables.variables.items) c.args.env.now c.pop_from.new.env c.in_ok-variables.ensures
    (subst (λ (vs : List (String Global)). OnOk c.pop_from.result (ArePoppedFrom c.args.owner.now (map text vs) c.args.env.now c.pop_from.new.env)) c.as_slice.ensures.value c.pop_from.ensures)

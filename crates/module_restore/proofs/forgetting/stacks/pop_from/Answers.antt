use Rattle.std.proofs.Common.{List, [], ◌∷◌, ◌++◌, map, take, string_bytes, String, ap, sym, ◌∙◌, subst}
use Rattle.std.specs.declared.alloc.Global.{Global}
use Rattle.std.proofs.lemmas.List.{take_all}
use Rattle.envvars.specs.Environment.{Environment}
use Rattle.envvars.specs.Texts.{Text}
use Rattle.module_restore.specs.forgetting.Forgets.{without_value}
use Rattle.module_restore.specs.forgetting.Views.{ArePoppedFrom}
use Rattle.module_restore.proofs.forgetting.PopLemmas.{pops_next, pops_none}
use Rattle.module_restore.proofs.forgetting.PrefixLemmas.{map_more}
use Rattle.module_restore.proofs.forgetting.stacks.pop_from.Goals as goal

pub loop-variable-init : goal.loop-variable-init
loop-variable-init c = pops_none c.args.owner.now c.args.env.now

pub loop-variable-preserved : goal.loop-variable-preserved
loop-variable-preserved c =
    let e = c.args.env.now in
    let o = c.args.owner.now in
    let i = c.loop-variable.variable-index in
    let text : String Global → Text = λ s. string_bytes s in
    let w = string_bytes c.variable-item.result in
    let done : List Text = map text (take i c.args.variables.now) in
    let next = pops_next o w done e c.loop-variable.env c.loop-variable.invariant in
    let made = c.in_ok-pop_if_pushed.ensures ∙ ap (λ (v : Text). without_value c.loop-variable.env v o) c.as_str.ensures.value in
    subst (λ (all : List Text). ArePoppedFrom o all e c.pop_if_pushed.new.env)
    (sym (map_more text c.args.variables.now i c.variable-item.result c.loop-variable-test.true c.variable-item.is))
    (subst (λ (now : Environment). ArePoppedFrom o (done ++ w ∷ []) e now) (sym made) next)

pub returns : goal.returns
returns c =
    let text : String Global → Text = λ s. string_bytes s in
    subst (λ (vs : List (String Global)). ArePoppedFrom c.args.owner.now (map text vs) c.args.env.now c.loop-variable.env)
    (take_all c.loop-variable.variable-index c.args.variables.now c.loop-variable-test.false) c.loop-variable.invariant

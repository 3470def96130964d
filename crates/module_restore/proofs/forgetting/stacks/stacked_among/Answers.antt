use Rattle.std.proofs.Common.{Bor, List, refl, ap, ◌∙◌, sym}
use Rattle.std.proofs.lemmas.List.{take_all}
use Rattle.envvars.specs.Names.{stack_name}
use Rattle.envvars.specs.Texts.{Text, has, slice_texts}
use Rattle.module_restore.proofs.forgetting.PrefixLemmas.{has_turn}
use Rattle.module_restore.proofs.forgetting.stacks.stacked_among.Goals as goal

pub loop-name-init : goal.loop-name-init
loop-name-init c = λ v h. refl

pub loop-name-preserved : goal.loop-name-preserved
loop-name-preserved c = λ v h.
    let before = c.in_ok-push_stacked.ensures v h in
    has_turn c.args.names.now c.loop-name.name-index _ c.loop-name-test.true (stack_name v) (c.loop-name.invariant v before.0) before.1

pub returns : goal.returns
returns c = λ v h. ap (λ (ns : List (Bor Text)). has (stack_name v) (slice_texts ns)) (sym (take_all c.loop-name.name-index c.args.names.now c.loop-name-test.false)) ∙ c.loop-name.invariant v h

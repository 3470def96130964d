use Rattle.std.proofs.Common.{Bor, ap, sym, ◌∙◌}
use Rattle.std.specs.Option.{option_map}
use Rattle.envvars.specs.Texts.{Text, texts_in}
use Rattle.module_restore.proofs.forgetting.PrefixLemmas.{push_is, texts_pushed, unlike_none}
use Rattle.module_restore.proofs.forgetting.stacks.push_stacked.Goals as goal

pub returns-in_ok-push : goal.returns-in_ok-push
returns-in_ok-push c =
    push_is (texts_in c.args.variables.now) (texts_in c.push.new.self) c.args.name.now c.in-Some.variable.now
    (texts_pushed c.args.variables.now.items c.push.new.self.items c.in_ok-from_str.field-0 c.in-Some.variable.now c.in_ok-push.ensures.items c.in_ok-from_str.ensures.ok)
    (sym c.stacked_in.ensures ∙ ap (option_map (λ (v : Bor Text). v.now)) c.in-Some.is)

pub returns-in_default : goal.returns-in_default
returns-in_default c = λ v h. (h, unlike_none c.args.name.now (sym c.stacked_in.ensures ∙ ap (option_map (λ (v : Bor Text). v.now)) c.in_default.is) v)

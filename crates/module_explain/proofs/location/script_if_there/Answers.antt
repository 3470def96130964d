use Rattle.std.proofs.Common.{◌≡◌, false, Result, String, sym, subst, ◌∙◌}
use Rattle.std.specs.Prelude.{IfErr}
use Rattle.std.specs.declared.alloc.Global.{Global}
use Rattle.modules.specs.transient_failures.Causes.{is_transient}
use Rattle.modules.specs.Answers.{cause_of}
use Rattle.modules.specs.declared.refusal.Refusal.{Refusal}
use Rattle.module_explain.proofs.LocationLemmas.{script_missed, script_read}
use Rattle.module_explain.proofs.location.script_if_there.Goals as goal

pub returns-in-Ok-clause-there : goal.returns-in-Ok-clause-there
returns-in-Ok-clause-there g c =
    script_read (g.T.Tree.agrees c.script_at.new.tree) _ c.args.path.now c.script_at.result c.in-Ok.text (sym c.in_ok-text.ensures.same ∙ c.in-Ok.is) c.script_at.ensures.over_tree

pub returns-clause-none : goal.returns-clause-none
returns-clause-none g c =
    script_missed (g.T.Tree.agrees c.script_at.new.tree) _ c.args.path.now c.script_at.result c.in-Err.field-0 (sym c.in_ok-text.ensures.same ∙ c.in-Err.is)
    (subst (λ (r : Result (String Global) Refusal). IfErr r (λ refusal. is_transient (cause_of refusal) ≡ false)) c.in-Err.is c.in_ok-text.ensures.kept)
    c.script_at.ensures.over_tree

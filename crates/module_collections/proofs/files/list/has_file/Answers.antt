use Rattle.std.proofs.Common.{◌≡◌, ◌∙◌, subst}
use Rattle.std.specs.Prelude.{IfErr, IfOk, IfSome}
use Rattle.envvars.specs.Texts.{Text}
use Rattle.module_collections.specs.files.Calls.{InEach}
use Rattle.module_collections.specs.files.Failures.{failure_of, unread}
use Rattle.module_collections.specs.files.Lists.{leads_to_file}
use Rattle.module_collections.proofs.files.list.has_file.Goals as goal

pub returns-clause-answer : goal.returns-clause-answer
returns-clause-answer g c =
    subst (λ (t : Text). IfOk c.leads_to_file.result (λ has. InEach (g.S.Storage.agrees c.leads_to_file.new.storage) (λ e. leads_to_file e t ≡ has)))
    (c.as_str.ensures.value ∙ c.in_ok-path.ensures) c.leads_to_file.ensures.answer

pub returns-clause-failure : goal.returns-clause-failure
returns-clause-failure g c =
    subst (λ (t : Text). IfErr c.leads_to_file.result (λ fault. IfSome (failure_of fault) (λ f. f ≡ unread t)))
    (c.as_str.ensures.value ∙ c.in_ok-path.ensures) c.leads_to_file.ensures.failure

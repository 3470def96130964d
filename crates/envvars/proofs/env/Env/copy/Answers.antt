use Rattle.std.proofs.Common.{◌∙◌, ap, refl, Some, None}
use Rattle.envvars.specs.Environment.{Environment}
use Rattle.envvars.specs.Given.{variables_of}
use Rattle.envvars.specs.Tables.{written_over}
use Rattle.envvars.proofs.TableLemmas.{copied_over}
use Rattle.envvars.proofs.env.Env.copy.Goals as goal

pub returns-clause-ok : goal.returns-clause-ok
returns-clause-ok c =
    ap (λ (e : Environment). written_over e c.in_ok-clone.field-0.entries) c.in_ok-copy.ensures.given
    ∙ copied_over (variables_of c.self.inside.given) _ (elim [ None ↦ elim [ None ↦ λ d. refl | Some y ↦ λ d. absurd d ] | Some x ↦ elim [ None ↦ λ d. absurd d | Some y ↦ λ d. ap Some d ] ])
    c.self.inside.written.entries c.in_ok-clone.field-0.entries c.in_ok-clone.ensures.cases
    ∙ c.self.view_is

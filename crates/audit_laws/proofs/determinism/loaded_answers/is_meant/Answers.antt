use Rattle.std.proofs.Common.{◌∙◌, rules, string_bytes}
use Rattle.std.proofs.lemmas.Iterator.{YieldsList-from_slice}
use Rattle.std.proofs.lemmas.Iterator.Search.{any_from_yields_List}
use Rattle.modulename.specs.ModuleName.{means}
use Rattle.audit_laws.proofs.determinism.Seen.{any_seen}
use Rattle.audit_laws.proofs.determinism.loaded_answers.is_meant.Goals as goal
use borrow.Author.Tests.{tests}

pub returns : goal.returns
returns c =
    any_from_yields_List (λ x. means (string_bytes x) c.args.module.now) _ _ _ c.any.ensures.ran (YieldsList-from_slice c.args.names.now cc) (λ x b q k. search (rules, tests))
    ∙ any_seen (λ name. means name c.args.module.now) string_bytes c.args.names.now

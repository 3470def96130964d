use Rattle.std.proofs.Common.{◌∙◌, rules, map, string_bytes}
use Rattle.std.specs.Prelude.{bytes_eq}
use Rattle.std.proofs.lemmas.Iterator.{YieldsList-from_slice}
use Rattle.std.proofs.lemmas.Iterator.Search.{any_from_yields_List}
use Rattle.audit_laws.specs.determinism.LoadedAnswers.{same_by}
use Rattle.audit_laws.proofs.determinism.Seen.{any_seen}
use Rattle.audit_laws.proofs.determinism.loaded_answers.is_one_of.Goals as goal
use borrow.Author.Tests.{tests}

pub returns : goal.returns
returns c =
    let names = map string_bytes c.args.names.now in
    any_from_yields_List (λ x. same_by bytes_eq names (map string_bytes x.now)) _ _ _ c.any.ensures.ran (YieldsList-from_slice c.args.questions.now cc) (λ x b q k. search (rules, tests))
    ∙ any_seen (same_by bytes_eq names) (λ x. map string_bytes x.now) c.args.questions.now

use Rattle.std.proofs.Common.{◌∙◌, rules, map, string_bytes}
use Rattle.std.proofs.lemmas.Iterator.{YieldsList-from_slice}
use Rattle.std.proofs.lemmas.Iterator.Search.{all_from_yields_List}
use Rattle.audit_laws.specs.determinism.LoadedAnswers.{is_one_of}
use Rattle.audit_laws.specs.determinism.ContextViews.{text_lists}
use Rattle.audit_laws.proofs.determinism.Seen.{all_seen}
use Rattle.audit_laws.proofs.determinism.loaded_answers.are_all_among.Goals as goal
use borrow.Author.Tests.{tests}

pub returns : goal.returns
returns c =
    let others = text_lists c.args.others.now in
    all_from_yields_List (λ x. is_one_of (map string_bytes x.now) others) _ _ _ c.all.ensures.ran (YieldsList-from_slice c.args.questions.now cc) (λ x b q k. search (rules, tests))
    ∙ all_seen (λ names. is_one_of names others) (λ x. map string_bytes x.now) c.args.questions.now

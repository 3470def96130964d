use Rattle.std.proofs.Common.{option_map, string_bytes, sym, ap, ◌∙◌}
use Rattle.std.specs.Prelude.{codes}
use Rattle.std.proofs.lemmas.Result.{IfOk-weaker}
use Rattle.audit_site.specs.WithoutVersion.{default_file_there}
use Rattle.audit_site.proofs.WithoutVersionLemmas.{first_there, other_there}
use Rattle.audit_site.proofs.without_version.first_default_file.Goals as goal

pub returns-in-Some-clause-answer : goal.returns-in-Some-clause-answer
returns-in-Some-clause-answer g c = λ files listings k.
    first_there (default_file_there files c.args.dir.now c.args.name.now (codes ".modulerc")) (default_file_there files c.args.dir.now c.args.name.now (codes ".version")) (string_bytes c.in-Some.path)
    (sym (c.in_ok-path.ensures.answer files listings k) ∙ ap (option_map string_bytes) c.in-Some.is)

pub returns-in-None-clause-answer : goal.returns-in-None-clause-answer
returns-in-None-clause-answer g c =
    let dir = c.args.dir.now in
    let name = c.args.name.now in
    IfOk-weaker c.default_file_there-in-None.result _ _
    (λ path h files listings k. other_there (default_file_there files dir name (codes ".modulerc")) (default_file_there files dir name (codes ".version")) (option_map string_bytes path)
    (sym (c.in_ok-path.ensures.answer files listings (c.default_file_there-in-None.ensures.narrows files listings k)) ∙ ap (option_map string_bytes) c.in-None.is) (h files listings k))
    c.default_file_there-in-None.ensures.answer

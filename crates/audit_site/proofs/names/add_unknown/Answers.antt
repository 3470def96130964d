use Rattle.std.proofs.Common.{[], ◌∷◌, map, ap, ◌∙◌, string_bytes}
use Rattle.envvars.specs.Texts.{Text}
use Rattle.audit_laws.specs.site.DirectorySets.{with_directories}
use Rattle.audit_laws.proofs.site.DirectorySetLemmas.{pushed}
use Rattle.audit_site.specs.Mentions.{known_in}
use Rattle.audit_site.proofs.OnceEach.{unknown_added}
use Rattle.audit_site.proofs.names.add_unknown.Goals as goal

pub returns-in_ok-insert : goal.returns-in_ok-insert
returns-in_ok-insert c =
    let old = map string_bytes c.args.unknown.now.keys in
    unknown_added (known_in c.args.meaning.now.keys) old (map string_bytes c.insert.new.self.keys) c.args.name.now c.is_meaning.result c.is_meaning.ensures c.if-not-is_meaning.true
    (pushed c.args.unknown.now.keys c.insert.new.self.keys c.in_ok-from_str.field-0 c.in_ok-insert.ensures.keys
    ∙ ap (λ (t : Text). with_directories old (t ∷ [])) c.in_ok-from_str.ensures.ok)

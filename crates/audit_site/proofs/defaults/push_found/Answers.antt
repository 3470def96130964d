use Rattle.std.proofs.Common.{◌≡◌, String, Global, Option, map, option_map, option_to_list, sym, subst, string_bytes}
use Rattle.audit_laws.specs.site.DirectorySets.{with_directories}
use Rattle.audit_laws.proofs.site.DirectorySetLemmas.{pushed}
use Rattle.audit_site.proofs.defaults.push_found.Goals as goal

pub returns-in_ok-insert : goal.returns-in_ok-insert
returns-in_ok-insert c =
    let old = map string_bytes c.args.paths.now.keys in
    let new = map string_bytes c.insert.new.self.keys in
    subst (λ (o : Option (String Global)). new ≡ with_directories old (option_to_list (option_map string_bytes o))) (sym c.in-Some.is)
    (pushed c.args.paths.now.keys c.insert.new.self.keys c.in-Some.path c.in_ok-insert.ensures.keys)

use Rattle.std.proofs.Common.{◌≡◌, true, map, string_bytes, refl, sym, ap, ◌∙◌, rules}
use Rattle.search.specs.Versions.{is_module_in}
use Rattle.search.proofs.VersionLemmas.{candidate_from}
use Rattle.search.proofs.defaults.candidate_of.Goals as goal

pub returns-then-branch-clause-answer : goal.returns-then-branch-clause-answer
returns-then-branch-clause-answer g c = λ files listings a.
    let version = string_bytes c.args.version in
    let there : is_module_in files c.args.dir.now c.args.name.now version ≡ true =
    ap (is_module_in files c.args.dir.now c.args.name.now) (sym c.deref-2.ensures) ∙ c.in_ok-is_module_in.ensures.answer files listings a ∙ c.if-branch.true in (
      candidate_from files listings c.args.dir.now c.args.name.now (map string_bytes c.args.entries.now) (c.requires files listings (c.is_module_in.ensures.narrows files listings a))
          version (search rules) (search rules) there,
      refl,
    )

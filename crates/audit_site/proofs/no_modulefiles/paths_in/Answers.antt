use Rattle.std.proofs.Common.{List, Option, map, flat_map, string_bytes, String, Global, sym, ap, ◌∙◌}
use Rattle.filetree.specs.Agreement.{listing_answer}
use Rattle.modulename.specs.ModuleName.{Text}
use Rattle.audit_site.specs.FilesBelow.{names_of, path_by, path_by_entry}
use Rattle.audit_site.proofs.FilesBelow.{paths_on}
use Rattle.audit_site.proofs.no_modulefiles.paths_in.Goals as goal

pub returns-in_ok-paths_of-in-Some-clause-answer : goal.returns-in_ok-paths_of-in-Some-clause-answer
returns-in_ok-paths_of-in-Some-clause-answer g c = λ files listings k.
    let folder = c.args.folder.now in
    let paths : Option (List Text) → List Text = λ o. flat_map (path_by folder) (names_of o) in
    let entries = c.in-Some.entries.items in
    c.in_ok-paths_of-in-Some.ensures
    ∙ (ap (λ (es : List (String Global)). flat_map (path_by_entry folder) es) c.as_slice.ensures.value
    ∙ (paths_on folder entries ∙ ap paths (sym (c.in_ok-entries.ensures.answer files listings k ∙ ap listing_answer c.in-Some.is))))

pub returns-in-None-clause-answer : goal.returns-in-None-clause-answer
returns-in-None-clause-answer g c = λ files listings k.
    let folder = c.args.folder.now in
    let paths : Option (List Text) → List Text = λ o. flat_map (path_by folder) (names_of o) in
    ap (map string_bytes) c.new.ensures.items ∙ ap paths (sym (c.in_ok-entries.ensures.answer files listings k ∙ ap listing_answer c.in-None.is))

use Rattle.std.proofs.Common.{◌≡◌, List, [], map, option_map, string_bytes, String, Some, sym, ap, subst, ◌∙◌}
use Rattle.std.proofs.lemmas.List.Sorted.{IsPermutation-map}
use Rattle.std.specs.List.Sorted.{IsPermutation}
use Rattle.std.specs.declared.alloc.Global.{Global}
use Rattle.modulename.specs.ModuleName.{Text}
use Rattle.filetree.specs.Agreement.{listing_answer}
use Rattle.search.specs.BelowFolder.{folder_path, names_in}
use Rattle.search.proofs.folder_names.names_below.Goals as goal

pub returns-clause-names : goal.returns-clause-names
returns-clause-names g c = λ files listings a.
    let prefix = option_map (λ f. f.now) c.args.prefix in
    let entries : List Text = map string_bytes c.in-Some.entries.items in
    let sorted = c.sort_names.new.names.items in
    let there : listings (folder_path c.args.dir.now prefix) ≡ Some entries = ap listings (sym (c.deref.ensures ∙ c.in_ok-folder.ensures))
    ∙ c.in_ok-entries.ensures.answer files listings a ∙ ap listing_answer c.in-Some.is in
    let same = c.in_ok-names.ensures ∙ ap (λ es. names_in [] prefix (map string_bytes es)) c.deref-2.ensures.value in (
      entries,
      there,
      subst (λ (l : List Text). IsPermutation l (map string_bytes sorted)) same
          (IsPermutation-map (λ (s : String Global). string_bytes s) c.in_ok-names.names.items sorted c.in_ok-sort_names.ensures.same),
      c.in_ok-sort_names.ensures.sorted,
    )

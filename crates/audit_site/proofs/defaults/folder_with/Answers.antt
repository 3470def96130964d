use Rattle.std.proofs.Common.{string_bytes, ◌≡◌, ◌∙◌, sym, ap, subst}
use Rattle.envvars.specs.Texts.{Text}
use Rattle.filetree.specs.Modulefiles.{path_of}
use Rattle.audit_site.specs.Folders.{IsInFolder}
use Rattle.audit_site.proofs.FolderLemmas.{found_folder}
use Rattle.audit_site.proofs.defaults.folder_with.Goals as goal

pub returns : goal.returns
returns c =
    let name = string_bytes c.args.module.now.name in
    let path = string_bytes c.args.module.now.path in
    let dir = c.in-Some-directory_of.dir.now in
    let folder = c.in-Some.name.now in
    let in_folder : IsInFolder name folder = subst (λ (t : Text). IsInFolder t folder) c.as_str.ensures.value c.in-Some.ensures in
    let below : path ≡ path_of dir name = sym c.as_str-2.ensures.value ∙ (c.in-Some-directory_of.ensures ∙ ap (path_of dir) c.as_str-3.ensures.value) in
    let d : string_bytes c.in_ok-from_str.field-0 ≡ dir = c.in_ok-from_str.ensures.ok in
    let n : string_bytes c.in_ok-from_str-2.field-0 ≡ folder = c.in_ok-from_str-2.ensures.ok in
    found_folder name path dir folder below in_folder (string_bytes c.in_ok-from_str.field-0, string_bytes c.in_ok-from_str-2.field-0) (λ i. (d i, n i))

use Rattle.std.proofs.Common.{◌≡◌, string_bytes, vec_items, ap, sym, subst, ◌∙◌}
use Rattle.std.specs.Str.{IsUtf8}
use Rattle.std.proofs.lemmas.Str.{IsUtf8-string_bytes}
use Rattle.filetree.specs.Modulefiles.{script}
use Rattle.filetree.proofs.ModulefileLemmas.{modulefile-script, modulefile-not_utf8}
use Rattle.search.proofs.modulefile.modulefile_of.Goals as goal

pub returns-in-Ok : goal.returns-in-Ok
returns-in-Ok c = λ begins.
    let bytes = c.args.bytes.items in
    let same : string_bytes c.in-Ok.text ≡ bytes = ap (λ v. vec_items v) c.in-Ok.ensures.ok in
    ap script same ∙ sym (modulefile-script bytes begins (subst IsUtf8 same (IsUtf8-string_bytes c.in-Ok.text)))

pub returns : goal.returns
returns c = λ begins. sym (modulefile-not_utf8 c.args.bytes.items begins (λ text. let ok = c.from_utf8.ensures.succeeds text in cc (rw c.in-Err.is at ok)))

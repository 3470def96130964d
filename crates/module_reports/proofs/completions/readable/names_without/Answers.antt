use Rattle.std.proofs.Common.{List, map, String, string_bytes, ap, sym, subst, ◌∙◌}
use Rattle.std.specs.declared.alloc.Global.{Global}
use Rattle.envvars.specs.Texts.{Text, slice_texts, texts_in}
use Rattle.filetree.specs.Agreement.{InEachPair}
use Rattle.filetree.proofs.hiding.HidingLemmas.{in_whole_pairs}
use Rattle.module_reports.specs.completions.Begun.{AreFor, AreForWithout}
use Rattle.module_reports.proofs.completions.readable.names_without.Goals as goal

pub returns-in-Ok-clause-named : goal.returns-in-Ok-clause-named
returns-in-Ok-clause-named g c =
    let texts : List (String Global) → List Text = λ l. map (λ (s : String Global). string_bytes s) l in
    let tree = c.names_for.new.tree in
    let agrees = g.T.Tree.agrees tree.tree in
    let dirs = slice_texts c.args.directories.now in
    let names = texts_in c.in-Ok.names in
    subst (λ (paths : List Text). InEachPair agrees (λ files folders. AreForWithout paths folders dirs c.args.word.now names)) (sym (c.in_ok-copies-in-Ok.ensures ∙ ap texts c.deref.ensures.value))
    (in_whole_pairs (texts tree.hidden.items) (texts tree.seen.items) agrees (λ files folders. AreFor folders dirs c.args.word.now names) tree.apart c.in-Ok.ensures.offered)

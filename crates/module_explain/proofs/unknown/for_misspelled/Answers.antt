use Rattle.std.proofs.Common.{◌≡◌, map, List, String, string_bytes, Bor, true, inr, sym, ap, subst, ◌∙◌}
use Rattle.std.specs.declared.alloc.Global.{Global}
use Rattle.envvars.specs.Texts.{Text, slice_texts, texts_in}
use Rattle.filetree.specs.Agreement.{InEachPair}
use Rattle.filetree.specs.Modulefiles.{directories}
use Rattle.modulename.specs.ModuleName.{is_module_name}
use Rattle.requests.specs.Steps.{modulepath}
use Rattle.module_explain.specs.Advised.{IsKnown, question}
use Rattle.module_explain.specs.Alike.{AreLike, respelled}
use Rattle.module_explain.proofs.unknown.for_misspelled.Goals as goal

pub returns-clause-fits : goal.returns-clause-fits
returns-clause-fits g c =
    let now = g.T.Tree.agrees c.names_like.new.tree in
    let name = respelled c.args.name.now in
    let names = texts_in c.in_ok-names.names in
    let spelled : is_module_name name ≡ true = ap is_module_name (sym (c.as_str.ensures.value ∙ c.in_ok-name.ensures))
    ∙ sym c.is_module_name.ensures ∙ c.if-not-is_module_name.false in
    let searched = ap (λ (l : List (Bor Text)). slice_texts l) c.as_slice.ensures.value ∙ c.in_ok-directories.ensures
    ∙ ap directories c.modulepath.ensures in
    inr (
      spelled,
      (
        names,
        subst (λ (typed : Text). InEachPair now (λ files listings. AreLike listings (directories (modulepath c.args.refused.env.now)) typed names))
            (c.as_str-2.ensures.value ∙ c.in_ok-name.ensures)
            (subst (λ (ds : List Text). InEachPair now (λ files listings. AreLike listings ds c.as_str-2.result.now names)) searched c.in_ok-names.ensures.like),
        subst (λ (l : List (String Global)). IsKnown (question (map (λ (s : String Global). string_bytes s) l)) c.in_ok-asked.field-0) c.as_slice-2.ensures.value c.in_ok-asked.ensures.line,
      ),
    )

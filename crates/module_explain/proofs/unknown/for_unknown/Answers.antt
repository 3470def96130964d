use Rattle.std.proofs.Common.{◌≡◌, map, List, String, string_bytes, Bor, sym, ap, subst, ◌∙◌}
use Rattle.std.specs.declared.alloc.Global.{Global}
use Rattle.envvars.specs.Texts.{Text, slice_texts, texts_in}
use Rattle.requests.specs.Steps.{modulepath}
use Rattle.filetree.specs.Agreement.{InEachPair}
use Rattle.module_explain.specs.Advised.{ForUnknown, IsKnown, question}
use Rattle.module_explain.specs.Alike.{AreLike, others}
use Rattle.module_explain.proofs.UnknownLemmas.{likes_are_said}
use Rattle.module_explain.proofs.unknown.for_unknown.Goals as goal

pub returns-clause-fits : goal.returns-clause-fits
returns-clause-fits g c =
    let texts : List (String Global) → List Text = λ l. map (λ (s : String Global). string_bytes s) l in
    let before = g.T.Tree.agrees c.is_one_there.new.tree in
    let now = g.T.Tree.agrees c.names_like.new.tree in
    let limits = c.args.refused.limits in
    let shell = c.args.refused.request.now.shell in
    let e = c.args.refused.env.now in
    let path : Text = c.modulepath-searched.result.now in
    let same : path ≡ modulepath e = c.modulepath-searched.ensures in
    subst (λ (p : Text). ForUnknown now limits shell e p c.args.name.now c.in_ok-asked.field-0) same
    (likes_are_said before now limits shell e path c.args.name.now (slice_texts c.as_slice.result.now)
    (ap (λ (l : List (Bor Text)). slice_texts l) c.as_slice.ensures.value ∙ c.in_ok-directories.ensures)
    c.names_like.ensures.narrows c.in_ok-asked.field-0 (texts_in c.in_ok-names.names) (sym c.is_empty.ensures ∙ c.if-is_empty.false) (c.in_ok-is_one_there.ensures.one c.if-not-branch.false)
    (subst (λ (ds : List Text). InEachPair now (λ files listings. AreLike listings ds c.args.name.now (texts_in c.in_ok-names.names)))
    (ap (λ (l : List (Bor Text)). slice_texts l) c.as_slice-2.ensures.value ∙ c.in_ok-directories.ensures) c.in_ok-names.ensures.like)
    (subst (λ (names : List Text). IsKnown (question names) c.in_ok-asked.field-0)
    (ap texts c.as_slice-4.ensures.value ∙ (c.in_ok-others.ensures ∙ ap (λ (l : List (String Global)). others c.args.name.now (texts l)) c.as_slice-3.ensures.value)) c.in_ok-asked.ensures.line))

use Rattle.std.proofs.Common.{◌≡◌, ◌∷◌, [], ◌++◌, ◌∙◌, string_bytes, Option, Some, None, String, Global}
use Rattle.std.specs.Option.{IfSome}
use Rattle.envvars.specs.Fields.{without}
use Rattle.envstate.specs.paths.PathTexts.{split_elements}
use Rattle.envstate.proofs.paths.PathOrderLemmas.{element_unparted}
use Rattle.envstate.proofs.paths.ElementSearch.{has-by_search, without-cut_out}
use Rattle.envstate.proofs.paths.one_element.without_element.Goals as goal

if_some : (o : Option (String Global)) (P Q : String Global → Type 0) → ((t : String Global) → P t → Q t) → IfSome o P → IfSome o Q
if_some None P Q f h = h
if_some (Some t) P Q f h = f t h

pub returns : goal.returns
returns c =
    let delim = c.args.delim in
    let element = c.args.element.now in
    let rest = c.as_str-3.result.now in
    let unparted = element_unparted delim element c.requires.element in
    let joined = c.as_str-3.ensures.value ∙ c.in_ok-rest.ensures in
    if_some c.between_delimiters.result (λ inner. string_bytes c.in_ok-rest.rest ≡ delim ∷ (string_bytes inner ++ delim ∷ []))
    (λ kept. split_elements delim (string_bytes kept) ≡ without element (split_elements delim c.args.text.now))
    (λ kept h.
    let surrounded = c.as_str-3.ensures.value ∙ h in
    let once = has-by_search delim element (string_bytes kept) c.as_str-4.result.now rest c.contains.result unparted
    (c.as_str-4.ensures.value ∙ c.in_ok-wanted.ensures) surrounded c.contains.ensures.cases in
    without-cut_out delim element c.args.text.now c.in-Some.before.now c.in-Some.after.now (string_bytes kept) c.as_str-2.result.now c.as_str.result.now rest c.contains.result
    unparted (c.as_str-2.ensures.value ∙ c.in_ok-wanted.ensures) (c.as_str.ensures.value ∙ c.in_ok-text.ensures) c.in-Some.ensures.cases joined surrounded once c.if-contains.false)
    c.between_delimiters.ensures

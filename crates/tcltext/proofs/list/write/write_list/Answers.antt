use Rattle.std.proofs.Common.{◌++◌, map, ap, subst, sym, ◌∙◌}
use Rattle.tcltext.specs.list.ListGrammar.{IsList}
use Rattle.tcltext.specs.list.Lists.{list_text}
use Rattle.tcltext.proofs.list.RoundTrip.{list_is}
use Rattle.tcltext.proofs.list.write.write_list.Goals as goal

pub returns-clause-read : goal.returns-clause-read
returns-clause-read c =
    let elements = map (λ e. e.now) c.args.elements.now in
    subst (λ bs. IsList bs elements) (sym (c.in_ok-push_list.ensures ∙ ap (λ bs. bs ++ list_text elements) c.new-text.ensures.bytes)) (list_is elements)

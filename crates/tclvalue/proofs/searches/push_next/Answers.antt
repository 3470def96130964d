use Rattle.std.proofs.Common.{refl, sym, map}
use Rattle.tclvalue.specs.Views.{pair_view}
use Rattle.tclvalue.proofs.SearchLemmas.{replaced_front}
use Rattle.tclvalue.proofs.searches.push_next.Goals as goal

pub returns-in_ok-push-in-Some-clause-ok : goal.returns-in_ok-push-in-Some-clause-ok
returns-in_ok-push-in-Some-clause-ok c = replaced_front (map pair_view c.args.replacements.now) c.args.text.now _ _ _ _
    _ c.in-len1-up.len_at_least refl (sym c.in-Some.ensures) c.in_ok-push-in-Some.ensures.0 c.after_key.ensures

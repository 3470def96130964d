use Rattle.std.proofs.Common.{ap, sym, ◌∙◌}
use Rattle.modulename.specs.ModuleName.{slash}
use Rattle.search.proofs.SelectionLemmas.{begins_so, goes_on, begins_otherwise, begins_none, begins_some}
use Rattle.search.proofs.selections.leads_below.Goals as goal

pub returns-in-Some-empty : goal.returns-in-Some-empty
returns-in-Some-empty c =
    let found = rw (c.as_bytes-2.ensures.value, c.as_bytes.ensures.value) at c.in-Some-empty.ensures.cases in
    sym (goes_on slash c.args.name.now c.args.text.now found.0 ∙ (ap (begins_so slash) (sym found.1) ∙ begins_none slash c.in-Some-empty.field-0.now c.in-Some-empty.len_below))

pub returns-in-Some-len1-up : goal.returns-in-Some-len1-up
returns-in-Some-len1-up c =
    let found = rw (c.as_bytes-2.ensures.value, c.as_bytes.ensures.value) at c.in-Some-len1-up.ensures.cases in
    sym (goes_on slash c.args.name.now c.args.text.now found.0 ∙ (ap (begins_so slash) (sym found.1) ∙ begins_some slash c.in-Some-len1-up.field-0.now c.in-Some-len1-up.len_at_least))

pub returns-in-None : goal.returns-in-None
returns-in-None c = sym (begins_otherwise slash c.args.name.now c.args.text.now (rw (c.as_bytes-2.ensures.value, c.as_bytes.ensures.value) at c.in-None.ensures.cases))

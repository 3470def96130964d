use Rattle.std.proofs.Common.{ap, sym, ◌∙◌}
use Rattle.modulename.proofs.Fronts.{means-front, means-apart, ends, ends-none, ends-some}
use Rattle.modulename.proofs.name.means.Goals as goal

pub returns-in-Some-empty : goal.returns-in-Some-empty
returns-in-Some-empty c =
    let found = rw (c.as_bytes-2.ensures.value, c.as_bytes.ensures.value) at c.in-Some-empty.ensures.cases in
    sym (means-front c.args.name.now c.args.full_name.now found.0 ∙ (ap ends (sym found.1) ∙ ends-none c.in-Some-empty.field-0.now c.in-Some-empty.len_below))

pub returns-in-Some-len1-up : goal.returns-in-Some-len1-up
returns-in-Some-len1-up c =
    let found = rw (c.as_bytes-2.ensures.value, c.as_bytes.ensures.value) at c.in-Some-len1-up.ensures.cases in
    sym (means-front c.args.name.now c.args.full_name.now found.0 ∙ (ap ends (sym found.1) ∙ ends-some c.in-Some-len1-up.field-0.now c.in-Some-len1-up.len_at_least))

pub returns-in-None : goal.returns-in-None
returns-in-None c = sym (means-apart c.args.name.now c.args.full_name.now (rw (c.as_bytes-2.ensures.value, c.as_bytes.ensures.value) at c.in-None.ensures.cases))

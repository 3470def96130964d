use Rattle.std.proofs.Common.{refl}
use Rattle.lookup.specs.DefaultFileResults.{default_setting, result_of}
use Rattle.lookup.proofs.laws.some_result.Goals as goal

pub returns : goal.returns
returns c = λ limits path text.
    let d = c.some_outcome.ensures (default_setting limits path text) in
    (result_of d.0 d.1.trace, (d.0, d.1, d.2, refl))

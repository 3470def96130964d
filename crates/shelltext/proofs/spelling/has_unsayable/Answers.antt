use Rattle.std.proofs.Common.{ap, ◌==◌}
use Rattle.std.specs.List.{list_any}
use Rattle.shelltext.specs.Reading.{is_unsayable}
use Rattle.shelltext.proofs.Values.{has_first, has_second}
use Rattle.shelltext.proofs.spelling.has_unsayable.Goals as goal

pub returns-then-has : goal.returns-then-has
returns-then-has c = has_first (is_unsayable c.args.family) (λ b. b == 0) (λ b. b == 10) c.args.value.now
    c.has-in-Csh.result (ap (λ f. list_any (is_unsayable f) c.args.value.now) c.in-Csh.is) c.has-in-Csh.ensures
    c.if-has.true

pub returns-else-has : goal.returns-else-has
returns-else-has c = has_second (is_unsayable c.args.family) (λ b. b == 0) (λ b. b == 10) c.args.value.now
    c.has-in-Csh.result c.has-else-has.result (ap (λ f. list_any (is_unsayable f) c.args.value.now) c.in-Csh.is)
    c.has-in-Csh.ensures c.if-has.false c.has-else-has.ensures

use Rattle.std.proofs.Common.{ap, ◌==◌}
use Rattle.std.specs.List.{list_any}
use Rattle.shelltext.specs.Reading.{is_special}
use Rattle.shelltext.proofs.Values.{has_first, has_second}
use Rattle.shelltext.proofs.spelling.has_special.Goals as goal

pub returns-then-has : goal.returns-then-has
returns-then-has c = has_first (is_special c.args.family) (λ b. b == 39) (λ b. b == 33) c.args.value.now
    c.has-in-Csh.result (ap (λ f. list_any (is_special f) c.args.value.now) c.in-Csh.is) c.has-in-Csh.ensures
    c.if-has.true

pub returns-else-has : goal.returns-else-has
returns-else-has c = has_second (is_special c.args.family) (λ b. b == 39) (λ b. b == 33) c.args.value.now
    c.has-in-Csh.result c.has-else-has.result (ap (λ f. list_any (is_special f) c.args.value.now) c.in-Csh.is)
    c.has-in-Csh.ensures c.if-has.false c.has-else-has.ensures

pub returns-then-has-2 : goal.returns-then-has-2
returns-then-has-2 c = has_first (is_special c.args.family) (λ b. b == 39) (λ b. b == 92) c.args.value.now
    c.has-in-Fish.result (ap (λ f. list_any (is_special f) c.args.value.now) c.in-Fish.is) c.has-in-Fish.ensures
    c.if-has-2.true

pub returns-else-has-2 : goal.returns-else-has-2
returns-else-has-2 c = has_second (is_special c.args.family) (λ b. b == 39) (λ b. b == 92) c.args.value.now
    c.has-in-Fish.result c.has-else-has-2.result (ap (λ f. list_any (is_special f) c.args.value.now) c.in-Fish.is)
    c.has-in-Fish.ensures c.if-has-2.false c.has-else-has-2.ensures

use Rattle.std.proofs.Common.{w64, FitsSigned, rules}
use Rattle.tclvalue.proofs.operators.RestLemmas.{no_rest, rest_alike, rest_apart, word_sum_fits}
use Rattle.tclvalue.proofs.operators.operands.Operands.remainder.Goals as goal

pub returns-then-rest-eq0 : goal.returns-then-rest-eq0
returns-then-rest-eq0 c =
    let left : FitsSigned w64 c.args.self.left = search rules in
    let right : FitsSigned w64 c.args.self.right = search rules in
    let rest : FitsSigned w64 c.wrapping_rem-rest.result = record { sfits = c.wrapping_rem-rest.type_inv } in
    no_rest _ _ _ left right rest c.wrapping_rem-rest.ensures c.if-self-eq0.false c.if-rest-eq0.true

pub overflow_add-result : goal.overflow_add-result
overflow_add-result c =
    let right : FitsSigned w64 c.args.self.right = search rules in
    let rest : FitsSigned w64 c.wrapping_rem-rest.result = record { sfits = c.wrapping_rem-rest.type_inv } in
    word_sum_fits _ _ rest right c.if-rest-self.false

pub returns-then-rest-self : goal.returns-then-rest-self
returns-then-rest-self c =
    let left : FitsSigned w64 c.args.self.left = search rules in
    let right : FitsSigned w64 c.args.self.right = search rules in
    let rest : FitsSigned w64 c.wrapping_rem-rest.result = record { sfits = c.wrapping_rem-rest.type_inv } in
    rest_alike _ _ _ left right rest c.wrapping_rem-rest.ensures c.if-self-eq0.false c.if-rest-eq0.false c.if-rest-self.true

pub returns-else-rest-self : goal.returns-else-rest-self
returns-else-rest-self c =
    let left : FitsSigned w64 c.args.self.left = search rules in
    let right : FitsSigned w64 c.args.self.right = search rules in
    let rest : FitsSigned w64 c.wrapping_rem-rest.result = record { sfits = c.wrapping_rem-rest.type_inv } in
    rest_apart _ _ _ left right rest c.wrapping_rem-rest.ensures c.if-self-eq0.false c.if-rest-eq0.false c.if-rest-self.false

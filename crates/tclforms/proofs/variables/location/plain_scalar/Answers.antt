use Rattle.std.proofs.Common.{◌≡◌, option_map, false, rules, tests, ◌==◌}
use Rattle.std.specs.List.{list_any}
use Rattle.tclforms.proofs.variables.Plain.{plain_location, unindexed}
use Rattle.tclforms.proofs.variables.location.plain_scalar.Goals as goal

pub returns-then-not-has_colon : goal.returns-then-not-has_colon
returns-then-not-has_colon c =
    let parts = c.name_and_index.result in
    let none = unindexed parts.1 c.is_none.result c.is_none.ensures c.if-is_none.true in
    let plain : list_any (λ b. b == 58) parts.0.now ≡ false = search (rules, tests) in
    rw c.scope_of-scope.ensures (plain_location c.args.variables.now c.args.name.now (parts.0.now, option_map (λ i. i.now) parts.1) c.name_and_index.ensures none plain)

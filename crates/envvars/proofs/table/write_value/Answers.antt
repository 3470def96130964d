use Rattle.std.proofs.Common.{◌≡◌, ap, ◌∙◌, string_bytes, Some, rules}
use Rattle.std.specs.Prelude.{bytes_eq, if◌then◌else◌}
use Rattle.std.specs.Option.{option_map}
use Rattle.envvars.specs.Tables.{slot}
use Rattle.envvars.proofs.TableLemmas.{slot-updated}
use Rattle.envvars.proofs.table.write_value.Goals as goal

pub returns-in-Some-clause-ok : goal.returns-in-Some-clause-ok
returns-in-Some-clause-ok c = λ x.
    slot-updated c.args.table.now (c.get_mut.follows.lender c.args.value) c.args.name.now (Some c.args.value) ((c.get_mut.follows.holds c.args.value).3 (search rules)) x

pub returns-clause-ok : goal.returns-clause-ok
returns-clause-ok c = λ x.
    let key = string_bytes c.in_ok-key.key in
    let value = option_map string_bytes c.args.value in
    let same : c.get_mut.follows.lender-at-none ≡ c.args.table.now = search rules in
    slot-updated c.get_mut.follows.lender-at-none c.insert.new.self key (Some c.args.value) c.in_ok-insert.ensures.updates x
    ∙ ap (λ t. if bytes_eq x key then Some value else slot t x) same
    ∙ ap (λ k. if bytes_eq x k then Some value else slot c.args.table.now x) c.in_ok-key.ensures.ok

use Rattle.std.proofs.Common.{◌≡◌, ◌++◌, drop, flat_map, string_bytes}
use Rattle.std.specs.Option.{option_map}
use Rattle.module_reports.specs.descriptions.Written.{shown}
use Rattle.module_reports.proofs.descriptions.written.shown_text.Given as goal

abbrev pub invariant-loop-outcome : goal.invariant-loop-outcome
invariant-loop-outcome l =
    string_bytes l.text ++ flat_map (shown (option_map (λ t. t.now) l.small)) (drop l.outcome-index l.outcomes)
    ≡ flat_map (shown (option_map (λ t. t.now) l.small)) l.outcomes

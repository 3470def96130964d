use Rattle.std.proofs.Common.{◌≡◌, Bool, true, false, List, map, rules, tests, string_bytes, String, Global, refl, sym, ◌∙◌, arith}
use Rattle.std.specs.List.{position_or_len}
use Rattle.std.proofs.lemmas.Iterator.{IsFirst-from_position, YieldsList-from_slice, index_from_first}
use Rattle.modaudit.specs.command.Arguments.{is_end}
use Rattle.modaudit.proofs.command.arguments.options_count.Goals as goal

abbrev answers : Bool → String Global → Type 0
answers b s = is_end (string_bytes s) ≡ b

pub returns-clause-value : goal.returns-clause-value
returns-clause-value c =
    c.unwrap_or.ensures ∙ sym (index_from_first (λ (ws : List (String Global)). position_or_len is_end (map string_bytes ws))
    (answers true) (answers false) refl (λ w ws h. rw h refl) (λ w ws h. rw h (omega arith)) c.args.args.now c.position.result
    (IsFirst-from_position _ _ c.position.result (answers true) (answers false) c.position.ensures.ran (YieldsList-from_slice c.args.args.now cc)
    (λ x q k. search (rules, tests)) (λ x q k. search (rules, tests))))

use Rattle.std.proofs.Common.{◌≡◌, ℕ, Bool, true, false, List, rules, tests, refl, sym, ◌∙◌, arith, ◌==◌}
use Rattle.std.specs.List.{position_or_len}
use Rattle.std.proofs.lemmas.Iterator.{IsFirst-from_position, YieldsList-from_slice, index_from_first}
use Rattle.envvars.specs.EnvironmentBlock.{is_equals}
use Rattle.process.proofs.not_utf8.name_length.Goals as goal

abbrev answers : Bool → ℕ → Type 0
answers b n = (n == 61) ≡ b

pub returns-clause-value : goal.returns-clause-value
returns-clause-value c =
    c.unwrap_or.ensures ∙ sym (index_from_first (λ (ns : List ℕ). position_or_len is_equals ns)
    (answers true) (answers false) refl (λ n ns h. rw h refl) (λ n ns h. rw h (omega arith)) c.args.entry.now c.position.result
    (IsFirst-from_position _ _ c.position.result (answers true) (answers false) c.position.ensures.ran (YieldsList-from_slice c.args.entry.now cc)
    (λ x q k. search (rules, tests)) (λ x q k. search (rules, tests))))

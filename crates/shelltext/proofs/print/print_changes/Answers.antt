use Rattle.std.proofs.Common.{map, ap, sym, ◌∙◌, rules, List, ℕ, Some}
use Rattle.std.proofs.lemmas.List.{take_all}
use Rattle.std.proofs.lemmas.List.Folds.{flat_map-map, list_all-map}
use Rattle.envvars.specs.Changes.{new_value_of}
use Rattle.shelltext.specs.Shells.{family_of}
use Rattle.shelltext.specs.Printing.{is_sayable, printed_line}
use Rattle.shelltext.proofs.Printed.{text_from_sayable, find_first, no_text}
use Rattle.shelltext.proofs.print.print_changes.Goals as goal

pub returns-then-not-is_sayable-clause-fault : goal.returns-then-not-is_sayable-clause-fault
returns-then-not-is_sayable-clause-fault c =
    let family = family_of c.args.shell in
    let found = find_first new_value_of (is_sayable family) c.args.changes.now c.loop-change.change-index
    c.change-item.result c.loop-change-test.true (rw c.family-family.ensures at c.loop-change.invariant.sayable)
    (rw (← c.change-item.is) (search rules)) in
    record {
      first = rw (found, ← c.change-item.is) (ap (λ (l : List ℕ). Some l) (sym c.in_ok-clone.ensures.cases));
      no_text = no_text c.args.shell (map new_value_of c.args.changes.now) _ found;
    }

pub returns-clause-text : goal.returns-clause-text
returns-clause-text c =
    let all = take_all c.loop-change.change-index c.args.changes.now c.loop-change-test.false in
    let family = family_of c.args.shell in
    let printed = rw (all, c.family-family.ensures) at c.loop-change.invariant.printed in
    let sayable = rw (all, c.family-family.ensures) at c.loop-change.invariant.sayable in
    rw (printed, ← flat_map-map (printed_line family) new_value_of c.args.changes.now)
    (text_from_sayable family (map new_value_of c.args.changes.now) (list_all-map (is_sayable family) new_value_of c.args.changes.now ∙ sayable))

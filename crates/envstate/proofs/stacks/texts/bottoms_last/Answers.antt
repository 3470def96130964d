use Rattle.std.proofs.Common.{◌∙◌, ◌-◌, length, take, arith, rules}
use Rattle.std.specs.Prelude.{is_some}
use Rattle.std.proofs.lemmas.Iterator.{YieldsList-from_slice}
use Rattle.std.proofs.lemmas.Iterator.Search.{all_from_yields_List}
use Rattle.envstate.specs.declared.stacks.texts.StackItem.{StackItem}
use Rattle.envstate.proofs.stacks.StackEdits.{front_owned}
use Rattle.envstate.proofs.stacks.texts.bottoms_last.Goals as goal
use borrow.Author.Tests.{tests}

pub returns-in-len1-up : goal.returns-in-len1-up
returns-in-len1-up c =
    all_from_yields_List (λ (item : StackItem). is_some item.owner) _ _ _ c.all.ensures.ran
    (YieldsList-from_slice (take (length c.args.items.now - 1) c.args.items.now) cc)
    (λ x b q k. search (rules, tests))
    ∙ front_owned c.args.items.now _ (omega (arith, c.in-len1-up.len_at_least))

use Rattle.std.proofs.Common.{refl, sym, ◌∙◌}
use Rattle.module_words.specs.function.Moved.{moved_view}
use Rattle.module_subcommands.proofs.moving.move_modules.Goals as goal

pub returns-then-is_empty_load-clause-moved : goal.returns-then-is_empty_load-clause-moved
returns-then-is_empty_load-clause-moved g c =
    let is = sym c.is_empty_load.ensures ∙ c.if-is_empty_load.true in
    (moved_view c.in_ok-moved.moved, rw c.as_slice-words.ensures.value at c.in_ok-moved.ensures, rw is refl)

pub returns-clause-moved : goal.returns-clause-moved
returns-clause-moved g c =
    let is = sym c.is_empty_load.ensures ∙ c.if-is_empty_load.false in
    (moved_view c.in_ok-moved.moved, rw c.as_slice-words.ensures.value at c.in_ok-moved.ensures, rw is (c.in_ok-accepted.accepted, c.in_ok-accepted.ensures.accepted, c.in_ok-reply_of.ensures))

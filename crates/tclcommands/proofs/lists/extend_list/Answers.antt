use Rattle.std.proofs.Common.{◌≡◌, ◌++◌, ◌≤◌, [], length, map, string_bytes, Bool, Ok, ap, ◌∙◌, rules}
use Rattle.std.proofs.lemmas.Result.{err_from_is_err_and}
use Rattle.tcltext.specs.chars.Runs.{Text}
use Rattle.tcltext.specs.chars.Faults.{max_bytes}
use Rattle.tcltext.specs.list.Lists.{list_text}
use Rattle.tclrules.specs.Variables.{value_at}
use Rattle.tclrules.specs.Rules.{value_or, lengthened}
use Rattle.tclrules.proofs.Leading.{continue_with, starve}
use Rattle.tclforms.proofs.substitution.Leading.{given_on}
use Rattle.tclforms.proofs.variables.Stores.{written}
use Rattle.tclcommands.proofs.ListTexts.{held, read_again}
use Rattle.tclforms.specs.variables.Locations.{scalar_view}
use Rattle.tclcommands.proofs.lists.extend_list.Goals as goal

pub returns-in_err-text : goal.returns-in_err-text
returns-in_err-text c =
    let p = err_from_is_err_and c.from_residual.result c.from_residual.ensures.1 in
    rw (p.1, p.2) (λ most remaining r k x. starve)

pub of_list-requires : goal.of_list-requires
of_list-requires c =
    let p : Bool × Text = scalar_view c.args.variable in
    let l = held c.args.variables.now p c.requires.list in
    (l.0 ++ map string_bytes c.args.values.now, c.in_ok-text.ensures l.0 (c.take_text-old.ensures.value ∙ l.1))

pub put_at-requires : goal.put_at-requires
put_at-requires c = search rules

pub returns-in_err-put_at : goal.returns-in_err-put_at
returns-in_err-put_at c =
    let q = err_from_is_err_and c.from_residual-in_err-put_at.result c.from_residual-in_err-put_at.ensures.1 in
    let p : Bool × Text = scalar_view c.args.variable in
    let l = held c.args.variables.now p c.requires.list in
    let xs = map string_bytes c.args.values.now in
    let t = c.of_list.ensures ∙ c.in_ok-text.ensures l.0 (c.take_text-old.ensures.value ∙ l.1) in
    let short : length (list_text l.0) ≤ max_bytes = rw l.1 at c.requires.read in
    let n : lengthened (value_or [] c.args.variables.now p) xs ≡ Ok (list_text (l.0 ++ xs)) = rw l.1 (read_again l.0 xs short) in
    let g = c.take_text-old.ensures.given_back c.of_list.result in
    rw (q.1, q.2) (λ most remaining r k x. continue_with (given_on _ _ _ _ n) (rw (← t, ← g) (c.in_err-put_at.ensures.continues most remaining r k x)))

pub returns : goal.returns
returns c =
    let p : Bool × Text = scalar_view c.args.variable in
    let l = held c.args.variables.now p c.requires.list in
    let xs = map string_bytes c.args.values.now in
    let t = c.of_list.ensures ∙ c.in_ok-text.ensures l.0 (c.take_text-old.ensures.value ∙ l.1) in
    let short : length (list_text l.0) ≤ max_bytes = rw l.1 at c.requires.read in
    let n : lengthened (value_or [] c.args.variables.now p) xs ≡ Ok (list_text (l.0 ++ xs)) = rw l.1 (read_again l.0 xs short) in
    let g = c.take_text-old.ensures.given_back c.of_list.result in
    let w = ap (λ s. value_at s p) (c.in_ok-put_at.ensures.written ∙ g) ∙ written c.args.variables.now c.requires.location.0 p c.of_list.result c.requires.location.1 in
    λ most remaining r k x. rw w (continue_with (given_on _ _ _ _ n) (rw (← t, ← g) (c.in_ok-put_at.ensures.continues most remaining r k x)))

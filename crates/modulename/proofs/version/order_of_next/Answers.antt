use Rattle.std.proofs.Common.{◌≡◌, ◌≤◌, Equal, nat_cmp, get_or, length, sym, ◌∙◌, arith, rules}
use Rattle.std.specs.List.{prefix_len}
use Rattle.std.proofs.lemmas.Bool.Decides.{nat_tests}
use Rattle.modulename.specs.Versions.{is_digit}
use Rattle.modulename.proofs.NextLemmas.{next_decides}
use Rattle.modulename.proofs.version.order_of_next.Goals as goal

pub returns-clause-order : goal.returns-clause-order
returns-clause-order c o =
    let xs = c.args.left.now in
    let ys = c.args.right.now in
    let apart : nat_cmp (get_or xs 0 0) (get_or ys 0 0) ≡ Equal → ⊥ = search rules in
    let alike : prefix_len is_digit xs ≡ prefix_len is_digit ys = search rules in
    let first : 1 ≤ length xs = grind (arith, nat_tests) in
    let second : 1 ≤ length ys = grind (arith, nat_tests) in
    next_decides o xs ys first second apart alike ∙ sym c.cmp.ensures

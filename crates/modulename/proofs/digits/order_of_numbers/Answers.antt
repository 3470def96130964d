use Rattle.std.proofs.Common.{◌≡◌, ℕ, List, length, ◌∙◌, sym, ap, refl}
use Rattle.std.specs.declared.cmp.Ordering.{Ordering}
use Rattle.std.specs.declared.cmp.Ordering.TheVariants.{Less, Equal, Greater}
use Rattle.std.specs.Ordering.{nat_cmp, ordering_then}
use Rattle.modulename.specs.DigitRuns.{number_of}
use Rattle.modulename.proofs.RunLemmas.{order_of_numbers}
use Rattle.modulename.proofs.digits.order_of_numbers.Goals as goal

then_equal : (o p q : Ordering) → o ≡ Equal → ordering_then o p ≡ q → p ≡ q
then_equal o p q e h = sym (ap (λ x. ordering_then x p) e) ∙ h

then_first : (o p q : Ordering) → (o ≡ Equal → ⊥) → ordering_then o p ≡ q → o ≡ q
then_first Less p q e h = h
then_first Equal p q e h = absurd (e refl)
then_first Greater p q e h = h

-- of the numbers without zeros, and so of those with them
numbers : (a b x y : List ℕ) → number_of a ≡ number_of x → number_of b ≡ number_of y → nat_cmp (number_of a) (number_of b) ≡ nat_cmp (number_of x) (number_of y)
numbers a b x y e f = ap (λ n. nat_cmp n (number_of b)) e ∙ ap (nat_cmp (number_of x)) f

pub returns-in-Equal : goal.returns-in-Equal
returns-in-Equal c =
    c.cmp-in-Equal.ensures
    ∙ then_equal (nat_cmp (length c.without_zeros-left.result.now) (length c.without_zeros-right.result.now)) _ _ (sym c.cmp.ensures ∙ c.in-Equal.is)
    (order_of_numbers c.without_zeros-left.result.now c.without_zeros-right.result.now c.without_zeros-left.ensures.digits c.without_zeros-right.ensures.digits
    c.without_zeros-left.ensures.first c.without_zeros-right.ensures.first)
    ∙ numbers c.without_zeros-left.result.now c.without_zeros-right.result.now c.args.left.now c.args.right.now c.without_zeros-left.ensures.number c.without_zeros-right.ensures.number

pub returns-in_default : goal.returns-in_default
returns-in_default c =
    c.cmp.ensures
    ∙ then_first (nat_cmp (length c.without_zeros-left.result.now) (length c.without_zeros-right.result.now)) _ _ (λ e. c.in_default.not-Equal (c.cmp.ensures ∙ e))
    (order_of_numbers c.without_zeros-left.result.now c.without_zeros-right.result.now c.without_zeros-left.ensures.digits c.without_zeros-right.ensures.digits
    c.without_zeros-left.ensures.first c.without_zeros-right.ensures.first)
    ∙ numbers c.without_zeros-left.result.now c.without_zeros-right.result.now c.args.left.now c.args.right.now c.without_zeros-left.ensures.number c.without_zeros-right.ensures.number

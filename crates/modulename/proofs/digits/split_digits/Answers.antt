use Rattle.std.proofs.Common.{◌≡◌, ℕ, List, ◌++◌, sym, ap, ◌∙◌}
use Rattle.std.proofs.lemmas.List.{take-append-drop}
use Rattle.std.proofs.lemmas.List.Sums.{prefix_len-le-length}
use Rattle.modulename.specs.Versions.{is_digit}
use Rattle.modulename.specs.DigitRuns.{are_digits, begins_digit}
use Rattle.modulename.proofs.RunLemmas.{digits_taken, rest_of_digits}
use Rattle.modulename.proofs.digits.split_digits.Goals as goal

pub split_at-requires : goal.split_at-requires
split_at-requires c = rw c.digit_count.ensures (prefix_len-le-length is_digit c.args.text.now)

pub returns-clause-whole : goal.returns-clause-whole
returns-clause-whole c =
    sym (take-append-drop c.digit_count.result c.args.text.now)
    ∙ joined _ _ _ _ (sym c.split_at.ensures.front) (sym c.split_at.ensures.back)
  where
    joined : (a b x y : List ℕ) → a ≡ x → b ≡ y → a ++ b ≡ x ++ y
    joined a b x y e f = ap (λ z. z ++ b) e ∙ ap (λ z. x ++ z) f

pub returns-clause-digits : goal.returns-clause-digits
returns-clause-digits c = ap are_digits c.split_at.ensures.front ∙ rw c.digit_count.ensures (digits_taken c.args.text.now)

pub returns-clause-rest : goal.returns-clause-rest
returns-clause-rest c = ap begins_digit c.split_at.ensures.back ∙ rw c.digit_count.ensures (rest_of_digits c.args.text.now)

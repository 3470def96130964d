-- What follows a prefix of a text.
use Rattle.std.proofs.Common.{◌≡◌, ◌≢◌, ℕ, Bool, true, false, List, [], ◌∷◌, ◌++◌, drop, Option, Some, None, option_map, MatchOption, Bor, refl, sym, ap, ◌∙◌, arith}
use Rattle.std.specs.Prelude.{◌==◌, if◌then◌else◌}
use Rattle.std.specs.Str.Pattern.{FindsTextPrefix, StripsPrefix}
use Rattle.std.proofs.lemmas.Bool.Decides.{nat_tests}
use Rattle.envvars.specs.Texts.{Text}
use Rattle.envstate.specs.Roles.{after_prefix}

itself : (b : ℕ) → (b == b) ≡ true
itself b = grind (arith, nat_tests)

of_prefix : (prefix rest : Text) → after_prefix prefix (prefix ++ rest) ≡ Some rest
of_prefix [] rest = refl
of_prefix (c ∷ cs) rest = rw (itself c) (of_prefix cs rest)

-- a text without the prefix has no rest after it
same_head : (c d : ℕ) → (c == d) ≡ true → c ≡ d
same_head c d h = grind (arith, nat_tests)

other_head : (t : Bool) (o : Option Text) → (t ≡ true → o ≡ None) → (if t then o else None) ≡ None
other_head true o h = h refl
other_head false o h = refl

of_other : (prefix text : Text) → ((rest : Text) → text ≢ prefix ++ rest) → after_prefix prefix text ≡ None
of_other [] text h = absurd (h text refl)
of_other (c ∷ cs) [] h = refl
of_other (c ∷ cs) (d ∷ ds) h =
    other_head (c == d) (after_prefix cs ds) (λ e. of_other cs ds (λ rest g. h rest (ap (λ x. x ∷ ds) (sym (same_head c d e)) ∙ ap (λ xs. c ∷ xs) g)))

-- what `strip_prefix` says
pub stripped : (prefix text : Text) (r : Option (Bor Text)) → MatchOption r (FindsTextPrefix prefix text None) (λ x. StripsPrefix (FindsTextPrefix prefix) text x.now)
    → option_map (λ v. v.now) r ≡ after_prefix prefix text
stripped prefix text None h = sym (of_other prefix text h)
stripped prefix text (Some x) (n, found, here, len) =
    ap Some here ∙ sym (of_prefix prefix (drop n text)) ∙ ap (after_prefix prefix) (sym found.1)

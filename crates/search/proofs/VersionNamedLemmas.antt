-- What follows a prefix of a text.
use Rattle.std.proofs.Common.{◌≡◌, ◌≢◌, ℕ, Bool, true, false, [], ◌∷◌, ◌++◌, drop, Option, Some, None, option_map}
use Rattle.std.proofs.Common.{MatchOption, Bor, refl, sym, ap, ◌∙◌, arith}
use Rattle.std.specs.Prelude.{◌==◌, if◌then◌else◌, option_and_then}
use Rattle.std.specs.Str.Pattern.{FindsTextPrefix, StripsPrefix}
use Rattle.std.proofs.lemmas.Bool.Decides.{nat_tests}
use Rattle.modulename.specs.ModuleName.{Text}
use Rattle.search.specs.DefaultVersions.{after_prefix}

itself : (b : ℕ) → (b == b) ≡ true
itself b = grind (arith, nat_tests)

pub after_prefix-prefix : (prefix rest : Text) → after_prefix prefix (prefix ++ rest) ≡ Some rest
after_prefix-prefix [] rest = refl
after_prefix-prefix (c ∷ cs) rest = rw (itself c) (after_prefix-prefix cs rest)

-- a text without the prefix has no rest after it
same_head : (c d : ℕ) → (c == d) ≡ true → c ≡ d
same_head c d h = grind (arith, nat_tests)

other_head : (t : Bool) (o : Option Text) → (t ≡ true → o ≡ None) → (if t then o else None) ≡ None
other_head true o h = h refl
other_head false o h = refl

pub after_prefix-none : (prefix text : Text) → ((rest : Text) → text ≢ prefix ++ rest) → after_prefix prefix text ≡ None
after_prefix-none [] text h = absurd (h text refl)
after_prefix-none (c ∷ cs) [] h = refl
after_prefix-none (c ∷ cs) (d ∷ ds) h =
    other_head (c == d) (after_prefix cs ds) (λ e. after_prefix-none cs ds (λ rest g. h rest (ap (λ x. x ∷ ds) (sym (same_head c d e)) ∙ ap (λ xs. c ∷ xs) g)))

step : (t : Bool) (o : Option Text) (f : Text → Option Text) → (if t then option_and_then f o else None) ≡ option_and_then f (if t then o else None)
step true o f = refl
step false o f = refl

-- one prefix after another
pub after_prefix-append : (prefix more text : Text) → after_prefix (prefix ++ more) text ≡ option_and_then (after_prefix more) (after_prefix prefix text)
after_prefix-append [] more text = refl
after_prefix-append (c ∷ cs) more [] = refl
after_prefix-append (c ∷ cs) more (d ∷ ds) =
    ap (λ o. if c == d then o else None) (after_prefix-append cs more ds) ∙ step (c == d) (after_prefix cs ds) (after_prefix more)

-- what `strip_prefix` says
pub stripped : (prefix text : Text) (r : Option (Bor Text)) → MatchOption r (FindsTextPrefix prefix text None) (λ x. StripsPrefix (FindsTextPrefix prefix) text x.now)
    → option_map (λ v. v.now) r ≡ after_prefix prefix text
stripped prefix text None h = sym (after_prefix-none prefix text h)
stripped prefix text (Some x) (n, found, here, len) =
    ap Some here ∙ sym (after_prefix-prefix prefix (drop n text)) ∙ ap (after_prefix prefix) (sym found.1)

pub after_prefix_none : (prefix more text : Text) (r : Option (Bor Text)) → option_map (λ v. v.now) r ≡ after_prefix prefix text → r ≡ None → None ≡ after_prefix (prefix ++ more) text
after_prefix_none prefix more text r h e =
    let none : after_prefix prefix text ≡ None = sym h ∙ ap (option_map (λ v. v.now)) e in
    sym (after_prefix-append prefix more text ∙ ap (option_and_then (after_prefix more)) none)

pub after_prefix_some : (prefix more text rest : Text) (r : Option (Bor Text)) (o : Option Text) → option_map (λ v. v.now) r ≡ after_prefix prefix text → option_map (λ v. v.now) r ≡ Some rest
    → o ≡ after_prefix more rest → o ≡ after_prefix (prefix ++ more) text
after_prefix_some prefix more text rest r o h e made =
    made ∙ sym (after_prefix-append prefix more text ∙ ap (option_and_then (after_prefix more)) (sym h ∙ e))

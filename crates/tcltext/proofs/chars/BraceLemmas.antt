-- Reading what stands in braces.
use Rattle.std.proofs.Common.{◌≡◌, ℕ, zero, suc, ◌+◌, ◌<◌, ◌≤◌, List, [], ◌∷◌, ◌++◌, length, get_or, take, drop, Bool}
use Rattle.std.proofs.Common.{true, false, Option, Some, None, refl, sym, ap, ◌∙◌, arith, append_assoc, option_map}
use Rattle.std.proofs.lemmas.List.{drop_more, take_more}
use Rattle.std.proofs.lemmas.Bool.Decides.{nat_tests}
use Rattle.tcltext.specs.chars.Braces.{brace_step, braced_at, with_first, after_step}

abbrev pub Found : Type 0
Found = Option (List ℕ × List ℕ)

-- more bytes before what was found
abbrev pub behind_all : List ℕ → Found → Found
behind_all bs found = option_map (λ p. (bs ++ p.0, p.1)) found

pub behind_all-nil : (found : Found) → found ≡ behind_all [] found
behind_all-nil None = refl
behind_all-nil (Some p) = refl

pub behind_all-push : (bs : List ℕ) (b : ℕ) (found : Found) → behind_all bs (with_first b found) ≡ behind_all (bs ++ b ∷ []) found
behind_all-push bs b None = refl
behind_all-push bs b (Some p) = ap (λ xs. Some (xs, p.1)) (sym (append_assoc bs (b ∷ []) p.0))

pub braced_at-cons : (e : Bool) (d b : ℕ) (bs : List ℕ) → braced_at e d (b ∷ bs) ≡ after_step b bs (λ e d. braced_at e d bs) (brace_step e d b)
unfolding braced_at
braced_at-cons e d b bs = refl

pub braced_at-nil : (e : Bool) (d : ℕ) → braced_at e d [] ≡ None
unfolding braced_at
braced_at-nil e d = refl

-- one byte more
pub brace-more : (bs : List ℕ) (i : ℕ) (e e' : Bool) (d d' : ℕ) (all : Found) → i < length bs → brace_step e d (get_or bs i 0) ≡ Some (e', d')
    → all ≡ behind_all (take i bs) (braced_at e d (drop i bs)) → all ≡ behind_all (take (i + 1) bs) (braced_at e' d' (drop (i + 1) bs))
brace-more bs i e e' d d' all h step so =
    let b = get_or bs i 0 in
    let rest = drop (i + 1) bs in
    so ∙ ap (λ ys. behind_all (take i bs) (braced_at e d ys)) (drop_more bs i 0 h)
    ∙ ap (behind_all (take i bs)) (braced_at-cons e d b rest ∙ ap (after_step b rest (λ e d. braced_at e d rest)) step)
    ∙ behind_all-push (take i bs) b (braced_at e' d' rest)
    ∙ ap (λ prefix. behind_all prefix (braced_at e' d' rest)) (sym (take_more bs i 0 h))

pub brace-closed : (bs : List ℕ) (i : ℕ) (e : Bool) (d : ℕ) (all : Found) → i < length bs → brace_step e d (get_or bs i 0) ≡ None
    → all ≡ behind_all (take i bs) (braced_at e d (drop i bs)) → all ≡ Some (take i bs ++ [], drop (i + 1) bs)
brace-closed bs i e d all h step so =
    let b = get_or bs i 0 in
    let rest = drop (i + 1) bs in
    so ∙ ap (λ ys. behind_all (take i bs) (braced_at e d ys)) (drop_more bs i 0 h)
    ∙ ap (behind_all (take i bs)) (braced_at-cons e d b rest ∙ ap (after_step b rest (λ e d. braced_at e d rest)) step)

-- only a brace closes
pub brace_step-None : (e : Bool) (d b : ℕ) → brace_step e d b ≡ None → b ≡ 125
brace_step-None true d b h = cc
brace_step-None false zero b h = grind (arith, nat_tests)
brace_step-None false (suc d) b h = grind (arith, nat_tests)

pub brace_step-few : (e e' : Bool) (d d' b : ℕ) → brace_step e d b ≡ Some (e', d') → d' ≤ d + 1
brace_step-few true e' d d' b h = grind (arith, nat_tests)
brace_step-few false e' zero d' b h = grind (arith, nat_tests)
brace_step-few false e' (suc d) d' b h = grind (arith, nat_tests)

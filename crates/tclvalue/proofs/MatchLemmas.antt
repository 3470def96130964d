-- The test of patterns decides the relation.
use Rattle.std.proofs.Common.{◌≡◌, ℕ, ◌∷◌, [], ◌++◌, Bool, true, false, not, Option, Some, None, refl, sym, ap, subst}
use Rattle.std.proofs.Common.{◌∙◌, arith, inl, inr}
use Rattle.std.specs.Prelude.{◌==◌, ◌||◌, ◌&&◌, if◌then◌else◌}
use Rattle.std.proofs.lemmas.Bool.{eqb-true, eq-eqb, or_cases, and_parts, not-true}
use Rattle.std.proofs.lemmas.Bool.Decides.{nat_tests}
use Rattle.tcltext.specs.chars.Runs.{Text}
use Rattle.tcltext.specs.pattern.Patterns.{star, question, open_bracket, close_bracket, backslash, dash, is_between}
use Rattle.tcltext.specs.pattern.Patterns.{is_ordinary, no_dash, after_close, HoldsIn, as_item, in_range, past_item}
use Rattle.tcltext.specs.pattern.Patterns.{past_range, IsMatch, both_end, any_text, any_character, in_set, escaped, itself}
use Rattle.tclvalue.specs.Globs.{where_holds, rest_after_set, after_set, after_escape, matches_first, matches_from}
use Rattle.tclvalue.specs.Globs.{matches_nothing, matches}
use Rattle.tclvalue.proofs.GlobLemmas.{item, behind_item, set_step}

plain_item : (low : ℕ) (ps : Text) → no_dash ps ≡ true → item low ps ≡ Some (low, ps)
plain_item low [] h = refl
plain_item low (d ∷ []) h = rw (not-true (d == dash) h) refl
plain_item low (d ∷ high ∷ ps) h = rw (not-true (d == dash) h) refl

holds_self : (c : ℕ) → is_between c c c ≡ true
holds_self c = grind (arith, nat_tests)

self_only : (b c : ℕ) → (b == c) ≡ false → is_between b b c ≡ false
self_only b c h = grind (arith, nat_tests)

set_found : (c : ℕ) (ps rest : Text) → HoldsIn c ps rest → rest_after_set c ps ≡ Some rest
set_found c ps rest (as_item {ps = qs} open_item plain) = behind_item c c qs open_item ∙ ap (set_step c c) (plain_item c qs plain) ∙ ap (λ b. where_holds b qs (rest_after_set c qs)) (holds_self c)
set_found c ps rest (in_range {low = low} {high = high} {ps = qs} open_item inside) = behind_item c low (dash ∷ (high ∷ qs)) open_item ∙ ap (λ b. where_holds b qs (rest_after_set c qs)) inside
set_found c ps rest (past_item {b = b} {ps = qs} open_item other plain more) =
    behind_item c b qs open_item ∙ ap (set_step c b) (plain_item b qs plain) ∙ ap (λ t. where_holds t qs (rest_after_set c qs)) (self_only b c other) ∙ set_found c qs rest more
set_found c ps rest (past_range {low = low} {high = high} {ps = qs} open_item outside more) =
    behind_item c low (dash ∷ (high ∷ qs)) open_item ∙ ap (λ t. where_holds t qs (rest_after_set c qs)) outside ∙ set_found c qs rest more

star_takes : (ps taken rest : Text) → matches ps rest ≡ true → matches (star ∷ ps) (taken ++ rest) ≡ true
star_takes ps [] [] h = h
star_takes ps [] (c ∷ cs) h = rw h refl
star_takes ps (t ∷ ts) rest h = let more : matches (star ∷ ps) (ts ++ rest) ≡ true = star_takes ps ts rest h in rw more (or_true (matches_from (λ qs. matches qs (ts ++ rest)) t ps))
  where
    or_true : (b : Bool) → (b || true) ≡ true
    or_true true = refl
    or_true false = refl

first_itself : (test : Text → Bool) (without : Bool) (c : ℕ) (ps : Text) → is_ordinary c ≡ true → matches_first test without c c ps ≡ test ps
first_itself test without c ps h =
    let a : (c == star) ≡ false = grind (arith, nat_tests) in
    let b : (c == question) ≡ false = grind (arith, nat_tests) in
    let d : (c == open_bracket) ≡ false = grind (arith, nat_tests) in
    let e : (c == backslash) ≡ false = grind (arith, nat_tests) in
    let f : (c == c) ≡ true = eq-eqb c c refl in
    rw (a, b, d, e, f) refl

pub match_passes : (ps cs : Text) → IsMatch ps cs → matches ps cs ≡ true
match_passes ps cs both_end = refl
match_passes ps cs (any_text {ps = qs} {rest = rest} taken m) = star_takes qs taken rest (match_passes qs rest m)
match_passes ps cs (any_character {ps = qs} {cs = ds} m) = match_passes qs ds m
match_passes ps cs (in_set {c = c} {ps = qs} {rest = rest} {cs = ds} h m) = ap (after_set (λ rs. matches rs ds)) (set_found c qs rest h) ∙ match_passes rest ds m
match_passes ps cs (escaped {c = c} {ps = qs} {cs = ds} m) = ap (λ b. b && matches qs ds) (eq-eqb c c refl) ∙ match_passes qs ds m
match_passes ps cs (itself {c = c} {ps = qs} {cs = ds} plain m) = first_itself (λ rs. matches rs ds) (matches_from (λ rs. matches rs ds) c qs) c qs plain ∙ match_passes qs ds m

-- a set that holds the character is one of the relation
close_of : (b : Bool) (ps rest : Text) (more : Option Text) (c : ℕ) (all : Text) → where_holds b ps more ≡ Some rest
    → (b ≡ true → HoldsIn c all (after_close ps)) → (b ≡ false → more ≡ Some rest → HoldsIn c all rest)
    → HoldsIn c all rest
close_of true ps rest more c all h f g = let e : after_close ps ≡ rest = cc in subst (HoldsIn c all) e (f refl)
close_of false ps rest more c all h f g = g refl h

nothing_found : {P : Type 0} (rest : Text) → (let none : Option Text = None in none ≡ Some rest) → P
nothing_found rest h = absurd (let e : ⊥ = cc in e)

or_parts : (x y : Bool) → (x || y) ≡ false → (x ≡ false) × (y ≡ false)
or_parts true y h = absurd (let f : ⊥ = cc in f)
or_parts false y h = (refl, h)

is_item : (c low : ℕ) (ps : Text) → (low == c) ≡ true → (low == close_bracket) ≡ false → no_dash ps ≡ true → HoldsIn c (low ∷ ps) (after_close ps)
is_item c low ps e other plain =
    let same : low ≡ c = eqb-true low c e in
    subst (λ x. HoldsIn c (x ∷ ps) (after_close ps)) (sym same) (as_item (subst (λ x. (x == close_bracket) ≡ false) same other) plain)

item_of : (c low : ℕ) (ps rest : Text) → (low == close_bracket) ≡ false → no_dash ps ≡ true
    → (rest_after_set c ps ≡ Some rest → HoldsIn c ps rest)
    → where_holds (low == c) ps (rest_after_set c ps) ≡ Some rest → HoldsIn c (low ∷ ps) rest
item_of c low ps rest other plain more h = close_of (low == c) ps rest (rest_after_set c ps) c (low ∷ ps) h (λ e. is_item c low ps e other plain) (λ e m. past_item other e plain (more m))

range_of : (c low high : ℕ) (ps rest : Text) → (low == close_bracket) ≡ false
    → (rest_after_set c ps ≡ Some rest → HoldsIn c ps rest)
    → where_holds (is_between low high c) ps (rest_after_set c ps) ≡ Some rest
    → HoldsIn c (low ∷ (dash ∷ (high ∷ ps))) rest
range_of c low high ps rest other more h = close_of (is_between low high c) ps rest (rest_after_set c ps) c (low ∷ (dash ∷ (high ∷ ps))) h (λ e. in_range other e) (λ e m. past_range other e (more m))

single_of : (c low : ℕ) (ps rest : Text) (t : Bool) → (t ≡ false → (low == close_bracket) ≡ false) → (t ≡ false → no_dash ps ≡ true) → (rest_after_set c ps ≡ Some rest → HoldsIn c ps rest)
    → (if t then None else where_holds (low == c) ps (rest_after_set c ps)) ≡ Some rest → HoldsIn c (low ∷ ps) rest
single_of c low ps rest true other plain more h = nothing_found rest h
single_of c low ps rest false other plain more h = item_of c low ps rest (other refl) (plain refl) more h

either_of : (c low d high : ℕ) (ps rest : Text) (t : Bool) → (d == dash) ≡ t → (low == close_bracket) ≡ false → (rest_after_set c ps ≡ Some rest → HoldsIn c ps rest)
    → (rest_after_set c (d ∷ high ∷ ps) ≡ Some rest → HoldsIn c (d ∷ high ∷ ps) rest)
    → (if t then where_holds (is_between low high c) ps (rest_after_set c ps) else where_holds (low == c)
    (d ∷ high ∷ ps) (rest_after_set c (d ∷ high ∷ ps))) ≡ Some rest → HoldsIn c (low ∷ d ∷ high ∷ ps) rest
either_of c low d high ps rest true e other more next h = subst (λ x. HoldsIn c (low ∷ (x ∷ (high ∷ ps))) rest) (sym (eqb-true d dash e)) (range_of c low high ps rest other more h)
either_of c low d high ps rest false e other more next h = item_of c low (d ∷ high ∷ ps) rest other (ap not e) next h

long_of : (c low d high : ℕ) (ps rest : Text) (t : Bool) → (low == close_bracket) ≡ t → (rest_after_set c ps ≡ Some rest → HoldsIn c ps rest)
    → (rest_after_set c (d ∷ high ∷ ps) ≡ Some rest → HoldsIn c (d ∷ high ∷ ps) rest)
    → (if t then None else if d == dash then where_holds (is_between low high c) ps (rest_after_set c ps) else
    where_holds (low == c) (d ∷ high ∷ ps) (rest_after_set c (d ∷ high ∷ ps))) ≡ Some rest
    → HoldsIn c (low ∷ d ∷ high ∷ ps) rest
long_of c low d high ps rest true e more next h = nothing_found rest h
long_of c low d high ps rest false e more next h = either_of c low d high ps rest (d == dash) refl e more next h

set_of : (c : ℕ) (ps rest : Text) → rest_after_set c ps ≡ Some rest → HoldsIn c ps rest
set_of c [] rest h = nothing_found rest h
set_of c (low ∷ []) rest h = single_of c low [] rest (low == close_bracket) (λ e. e) (λ e. refl) (nothing_found rest) h
set_of c (low ∷ d ∷ []) rest h =
    single_of c low (d ∷ []) rest (low == close_bracket || d == dash)
    (λ e. (or_parts (low == close_bracket) (d == dash) e).0)
    (λ e. ap not (or_parts (low == close_bracket) (d == dash) e).1) (set_of c (d ∷ []) rest) h
set_of c (low ∷ d ∷ high ∷ ps) rest h = long_of c low d high ps rest (low == close_bracket) refl (set_of c ps rest) (set_of c (d ∷ high ∷ ps) rest) h

star_stays : (ps qs cs : Text) (c : ℕ) → IsMatch qs cs → qs ≡ star ∷ ps → IsMatch qs (c ∷ cs)
star_stays ps qs cs c both_end e = absurd (let f : ⊥ = cc in f)
star_stays ps qs cs c (any_text taken m) e = any_text (c ∷ taken) m
star_stays ps qs cs c (any_character {ps = rs} m) e = absurd (let f : question ≡ star = cc in omega (arith, f))
star_stays ps qs cs c (in_set h m) e = absurd (let f : open_bracket ≡ star = cc in omega (arith, f))
star_stays ps qs cs c (escaped m) e = absurd (let f : backslash ≡ star = cc in omega (arith, f))
star_stays ps qs cs c (itself {c = d} plain m) e = absurd (let f : d ≡ star = cc in let g : is_ordinary star ≡ true = subst (λ x. is_ordinary x ≡ true) f plain in let k : ⊥ = cc in k)

nothing_of : (ps : Text) → matches_nothing ps ≡ true → IsMatch ps []
nothing_of [] h = both_end
nothing_of (p ∷ ps) h =
    let both = and_parts (p == star) (matches_nothing ps) h in
    subst (λ x. IsMatch (x ∷ ps) []) (sym (eqb-true p star both.0)) (any_text {rest = []} [] (nothing_of ps both.1))

pick : {P : Type 0} (t x y : Bool) → (if t then x else y) ≡ true → (t ≡ true → x ≡ true → P) → (t ≡ false → y ≡ true → P) → P
pick true x y h f g = f refl h
pick false x y h f g = g refl h

set_case : (c : ℕ) (cs ps : Text) (o : Option Text) → ((qs : Text) → matches qs cs ≡ true → IsMatch qs cs)
    → rest_after_set c ps ≡ o → after_set (λ qs. matches qs cs) o ≡ true → IsMatch (open_bracket ∷ ps) (c ∷ cs)
set_case c cs ps None ih e h = absurd (let f : ⊥ = cc in f)
set_case c cs ps (Some rest) ih e h = in_set (set_of c ps rest e) (ih rest h)

escape_case : (c : ℕ) (cs ps : Text) → ((qs : Text) → matches qs cs ≡ true → IsMatch qs cs) → after_escape (λ qs. matches qs cs) c ps ≡ true → IsMatch (backslash ∷ ps) (c ∷ cs)
escape_case c cs [] ih h = absurd (let f : ⊥ = cc in f)
escape_case c cs (q ∷ qs) ih h =
    let both = and_parts (q == c) (matches qs cs) h in
    subst (λ x. IsMatch (backslash ∷ (x ∷ qs)) (c ∷ cs)) (sym (eqb-true q c both.0)) (escaped (ih qs both.1))

plain_case : (c p : ℕ) (cs ps : Text) → ((qs : Text) → matches qs cs ≡ true → IsMatch qs cs) → is_ordinary p ≡ true → (p == c && matches ps cs) ≡ true → IsMatch (p ∷ ps) (c ∷ cs)
plain_case c p cs ps ih plain h =
    let both = and_parts (p == c) (matches ps cs) h in
    let same : p ≡ c = eqb-true p c both.0 in
    subst (λ x. IsMatch (x ∷ ps) (c ∷ cs)) (sym same) (itself (subst (λ x. is_ordinary x ≡ true) same plain) (ih ps both.1))

ordinary : (p : ℕ) → (p == star) ≡ false → (p == question) ≡ false → (p == open_bracket) ≡ false → (p == backslash) ≡ false → is_ordinary p ≡ true
ordinary p a b d e = rw (a, b, d, e) refl

star_case : (c p : ℕ) (cs ps : Text) → ((qs : Text) → matches qs cs ≡ true → IsMatch qs cs) → p ≡ star → (matches_from (λ qs. matches qs cs) c ps ≡ true → IsMatch ps (c ∷ cs))
    → (matches_from (λ qs. matches qs cs) c ps || matches (p ∷ ps) cs) ≡ true → IsMatch (p ∷ ps) (c ∷ cs)
star_case c p cs ps ih e more h = elim (or_cases (matches_from (λ qs. matches qs cs) c ps) (matches (p ∷ ps) cs) h) [
  | inl a ↦ subst (λ x. IsMatch (x ∷ ps) (c ∷ cs)) (sym e) (any_text [] (more a))
  | inr b ↦ star_stays ps (p ∷ ps) cs c (ih (p ∷ ps) b) (ap (λ x. x ∷ ps) e)
]

from_of : (c : ℕ) (cs : Text) → ((qs : Text) → matches qs cs ≡ true → IsMatch qs cs) → (ps : Text) → matches_from (λ qs. matches qs cs) c ps ≡ true → IsMatch ps (c ∷ cs)
from_of c cs ih [] h = absurd (let f : ⊥ = cc in f)
from_of c cs ih (p ∷ ps) h =
    pick (p == star) _ _ h (λ e k. star_case c p cs ps ih (eqb-true p star e) (from_of c cs ih ps) k)
    (λ e1 h1. pick (p == question) _ _ h1 (λ e k. subst (λ x. IsMatch (x ∷ ps) (c ∷ cs)) (sym (eqb-true p question e)) (any_character (ih ps k)))
    (λ e2 h2. pick (p == open_bracket) _ _ h2 (λ e k. subst (λ x. IsMatch (x ∷ ps) (c ∷ cs)) (sym (eqb-true p open_bracket e)) (set_case c cs ps (rest_after_set c ps) ih refl k))
    (λ e3 h3. pick (p == backslash) _ _ h3 (λ e k. subst (λ x. IsMatch (x ∷ ps) (c ∷ cs)) (sym (eqb-true p backslash e)) (escape_case c cs ps ih k))
    (λ e4 h4. plain_case c p cs ps ih (ordinary p e1 e2 e3 e4) h4))))

pub match_of : (ps cs : Text) → matches ps cs ≡ true → IsMatch ps cs
match_of ps [] h = nothing_of ps h
match_of ps (c ∷ cs) h = from_of c cs (λ qs. match_of qs cs) ps h

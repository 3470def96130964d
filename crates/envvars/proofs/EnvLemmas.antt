-- Environments, by what they have at a name.
use Rattle.std.proofs.Common.{◌≡◌, Bool, true, false, cond, refl, sym, ap, ◌∙◌, Option, Some, None, Result, Ok, Err}
use Rattle.std.specs.Prelude.{bytes_eq}
use Rattle.std.specs.Ordering.{nat_cmp}
use Rattle.std.specs.Cmp.Lexicographic.{slice_cmp, nat_list_cmp_total}
use Rattle.std.proofs.lemmas.Bool.{false≢true}
use Rattle.std.specs.Result.{OnErr}
use Rattle.std.specs.FinMap as finite
use Rattle.std.specs.FinMap.{get-insert, get-remove, same_map, slice_cmp-IsAntisymmetric, nat_cmp-IsAntisymmetric}
use Rattle.std.proofs.lemmas.Map.Text.{is_eq-slice_cmp}
use Rattle.envvars.specs.Texts.{Text}
use Rattle.envvars.specs.Environment.{Environment, lookup, with_value}
use Rattle.envvars.proofs.TextLemmas.{bytes_eq-same, same_text}

pub antisymmetric : finite.IsAntisymmetric (slice_cmp nat_cmp)
antisymmetric = slice_cmp-IsAntisymmetric nat_cmp-IsAntisymmetric

-- environments that answer alike are one
pub same_environment : (d e : Environment) → ((q : Text) → lookup d q ≡ lookup e q) → d ≡ e
same_environment d e h = same_map nat_list_cmp_total antisymmetric d e h

pub lookup-with_value : (e : Environment) (name : Text) (value : Option Text) (q : Text) → lookup (with_value e name value) q ≡ cond (bytes_eq q name) value (lookup e q)
lookup-with_value e name None q = get-remove nat_list_cmp_total e name q ∙ ap (λ (b : Bool). cond b None (lookup e q)) (is_eq-slice_cmp q name)
lookup-with_value e name (Some value) q = get-insert nat_list_cmp_total e name value q ∙ ap (λ (b : Bool). cond b (Some value) (lookup e q)) (is_eq-slice_cmp q name)

back : (e : Environment) (name q : Text) (value : Option Text) (b : Bool) → bytes_eq q name ≡ b → cond b (lookup e name) (cond b value (lookup e q)) ≡ lookup e q
back e name q value true h = ap (lookup e) (sym (same_text q name h))
back e name q value false h = refl

-- what a name had, written back
pub with_value-back : (e : Environment) (name : Text) (value : Option Text) → with_value (with_value e name value) name (lookup e name) ≡ e
with_value-back e name value = same_environment _ _ (λ q.
    lookup-with_value (with_value e name value) name (lookup e name) q
    ∙ ap (cond (bytes_eq q name) (lookup e name)) (lookup-with_value e name value q)
    ∙ back e name q value (bytes_eq q name) refl)

kept : (e : Environment) (name q : Text) (b : Bool) → bytes_eq q name ≡ b → cond b (lookup e name) (lookup e q) ≡ lookup e q
kept e name q true h = ap (lookup e) (sym (same_text q name h))
kept e name q false h = refl

-- a variable that is given the value that it has
pub with_value-same : (e : Environment) (name : Text) → with_value e name (lookup e name) ≡ e
with_value-same e name = same_environment _ _ (λ q. lookup-with_value e name (lookup e name) q ∙ kept e name q (bytes_eq q name) refl)

pub lookup-set : (e : Environment) (name : Text) (value : Option Text) → lookup (with_value e name value) name ≡ value
lookup-set e name value = lookup-with_value e name value name ∙ (rw (bytes_eq-same name) refl)

with_values-commute : (e : Environment) (m n q : Text) (v w : Option Text) (a b : Bool) → bytes_eq q m ≡ a → bytes_eq q n ≡ b → bytes_eq m n ≡ false
    → cond b w (cond a v (lookup e q)) ≡ cond a v (cond b w (lookup e q))
with_values-commute e m n q v w true true h k d = absurd (false≢true (sym d ∙ ap (λ (t : Text). bytes_eq t n) (sym (same_text q m h)) ∙ k))
with_values-commute e m n q v w true false h k d = refl
with_values-commute e m n q v w false b h k d = refl

-- two names that differ can be written in either order
pub with_value-commutes : (e : Environment) (m n : Text) (v w : Option Text) → bytes_eq m n ≡ false → with_value (with_value e m v) n w ≡ with_value (with_value e n w) m v
with_value-commutes e m n v w d = same_environment _ _ (λ q.
    lookup-with_value (with_value e m v) n w q ∙ ap (cond (bytes_eq q n) w) (lookup-with_value e m v q)
    ∙ with_values-commute e m n q v w (bytes_eq q m) (bytes_eq q n) refl refl d
    ∙ sym (lookup-with_value (with_value e n w) m v q ∙ ap (cond (bytes_eq q m) v) (lookup-with_value e n w q)))

-- a fact holds where a call is refused
pub refused : {A E : Type 0} (r : Result A E) (P : Type 0) → P → OnErr r P
refused (Ok v) P p = tt
refused (Err e) P p = p

-- What follows a prefix of a text, and the names of stacks.
use Rattle.std.proofs.Common.{◌≡◌, ◌≢◌, ◌<◌, ◌+◌, ℕ, Bool, true, false, ◌||◌, List, [], ◌∷◌, ◌++◌, drop, take, get_or, length, map, string_bytes, String, Option, Some, None, option_map}
use Rattle.std.proofs.Common.{MatchOption, Bor, refl, sym, ap, ◌∙◌, arith}
use Rattle.std.specs.Prelude.{◌==◌, bytes_eq, codes, if◌then◌else◌}
use Rattle.std.specs.Str.Pattern.{FindsTextPrefix, StripsPrefix}
use Rattle.std.specs.declared.alloc.Global.{Global}
use Rattle.std.proofs.lemmas.Bool.Decides.{nat_tests}
use Rattle.std.proofs.lemmas.Bool.{false≢true}
use Rattle.std.proofs.lemmas.List.{map-append, take_more}
use Rattle.envvars.specs.Names.{stack_name}
use Rattle.envvars.specs.Texts.{Text, has, slice_texts}
use Rattle.envvars.proofs.TextLemmas.{bytes_eq-same, has-push, or_left, or_right, same_text}
use Rattle.envstate.specs.Roles.{after_prefix}
use Rattle.module_restore.specs.forgetting.Views.{stacked_in}

itself : (b : ℕ) → (b == b) ≡ true
itself b = grind (arith, nat_tests)

after_prefix-prefix : (prefix rest : Text) → after_prefix prefix (prefix ++ rest) ≡ Some rest
after_prefix-prefix [] rest = refl
after_prefix-prefix (c ∷ cs) rest = rw (itself c) (after_prefix-prefix cs rest)

-- a text without the prefix has no rest after it
same_head : (c d : ℕ) → (c == d) ≡ true → c ≡ d
same_head c d h = grind (arith, nat_tests)

other_head : (t : Bool) (o : Option Text) → (t ≡ true → o ≡ None) → (if t then o else None) ≡ None
other_head true o h = h refl
other_head false o h = refl

after_prefix-none : (prefix text : Text) → ((rest : Text) → text ≢ prefix ++ rest) → after_prefix prefix text ≡ None
after_prefix-none [] text h = absurd (h text refl)
after_prefix-none (c ∷ cs) [] h = refl
after_prefix-none (c ∷ cs) (d ∷ ds) h =
    other_head (c == d) (after_prefix cs ds) (λ e. after_prefix-none cs ds (λ rest g. h rest (ap (λ x. x ∷ ds) (sym (same_head c d e)) ∙ ap (λ xs. c ∷ xs) g)))

-- what `strip_prefix` says
pub stripped : (prefix text : Text) (r : Option (Bor Text)) → MatchOption r (FindsTextPrefix prefix text None) (λ x. StripsPrefix (FindsTextPrefix prefix) text x.now)
    → option_map (λ v. v.now) r ≡ after_prefix prefix text
stripped prefix text None h = sym (after_prefix-none prefix text h)
stripped prefix text (Some x) (n, found, here, len) =
    ap Some here ∙ sym (after_prefix-prefix prefix (drop n text)) ∙ ap (after_prefix prefix) (sym found.1)

-- ---- names of stacks

stacked_itself : (v : Text) → stacked_in (stack_name v) ≡ Some v
stacked_itself v = after_prefix-prefix (codes "__MODULES_PUSHENV_") v

not_true : (b : Bool) → (b ≡ true → ⊥) → b ≡ false
not_true true h = absurd (h refl)
not_true false h = refl

same_some : (v w : Text) → Some v ≡ Some w → v ≡ w
same_some v w h = cc

no_some : (v : Text) → (let o : Option Text = None in o) ≡ Some v → ⊥
no_some v h = cc

-- a name that is none of a stack
pub unlike_none : (name : Text) → stacked_in name ≡ None → (v : Text) → bytes_eq (stack_name v) name ≡ false
unlike_none name none v =
    not_true (bytes_eq (stack_name v) name) (λ e. no_some v (sym none ∙ ap stacked_in (sym (same_text (stack_name v) name e)) ∙ stacked_itself v))

-- one of the stack of another variable
unlike_other : (name variable : Text) → stacked_in name ≡ Some variable → (v : Text) → bytes_eq v variable ≡ false → bytes_eq (stack_name v) name ≡ false
unlike_other name variable some v other =
    not_true (bytes_eq (stack_name v) name) (λ e.
    let same : v ≡ variable = same_some v variable (sym (stacked_itself v) ∙ ap stacked_in (same_text (stack_name v) name e) ∙ some) in
    false≢true (sym other ∙ ap (λ (t : Text). bytes_eq t variable) same ∙ bytes_eq-same variable))

pub push_is : (old new : List Text) (name variable : Text) → new ≡ old ++ variable ∷ [] → stacked_in name ≡ Some variable
    → (v : Text) → has v new ≡ false → (has v old ≡ false) × (bytes_eq (stack_name v) name ≡ false)
push_is old new name variable pushed some v h =
    let none : (bytes_eq v variable || has v old) ≡ false = sym (ap (has v) pushed ∙ has-push old variable v) ∙ h in
    (or_right (bytes_eq v variable) (has v old) none, unlike_other name variable some v (or_left (bytes_eq v variable) (has v old) none))

-- texts of a vector behind a push
pub texts_pushed : (old new : List (String Global)) (s : String Global) (t : Text) → new ≡ old ++ s ∷ [] → string_bytes s ≡ t
    → map (λ (x : String Global). string_bytes x) new ≡ map (λ (x : String Global). string_bytes x) old ++ t ∷ []
texts_pushed old new s t h k =
    ap (map (λ (x : String Global). string_bytes x)) h ∙ map-append (λ (x : String Global). string_bytes x) old (s ∷ [])
    ∙ ap (λ (y : Text). map (λ (x : String Global). string_bytes x) old ++ y ∷ []) k

-- one turn more
pub map_more : {X Y : Type 0} (f : X → Y) (xs : List X) (i : ℕ) (x : X) → i < length xs → x ≡ get_or xs i x → map f (take (i + 1) xs) ≡ map f (take i xs) ++ f x ∷ []
map_more f xs i x l e = ap (map f) (take_more xs i x l ∙ ap (λ y. take i xs ++ y ∷ []) (sym e)) ∙ map-append f (take i xs) (x ∷ [])

or_both : (a b : Bool) → a ≡ false → b ≡ false → (a || b) ≡ false
or_both a b h k = rw (h, k) refl

pub has_turn : (names : List (Bor Text)) (i : ℕ) (d : Bor Text) → i < length names → (n : Text) → has n (slice_texts (take i names)) ≡ false → bytes_eq n (get_or names i d).now ≡ false
    → has n (slice_texts (take (i + 1) names)) ≡ false
has_turn names i d l n h k =
    ap (λ (ns : List (Bor Text)). has n (slice_texts ns)) (take_more names i d l)
    ∙ ap (has n) (map-append (λ (y : Bor Text). y.now) (take i names) (get_or names i d ∷ []))
    ∙ has-push (slice_texts (take i names)) (get_or names i d).now n
    ∙ or_both (bytes_eq n (get_or names i d).now) (has n (slice_texts (take i names))) k h

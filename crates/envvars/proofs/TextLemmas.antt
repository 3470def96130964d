-- Tests of texts.
use Rattle.std.proofs.Common.{◌≡◌, Bool, true, false, cond, not, ◌||◌, ◌&&◌, List, [], ◌∷◌, ◌++◌, refl, sym, ap, ◌∙◌}
use Rattle.std.proofs.Common.{Bor}
use Rattle.std.specs.Prelude.{filter, bytes_eq}
use Rattle.std.proofs.lemmas.Slice.Eq.{bytes_eq-Decides}
use Rattle.std.proofs.lemmas.Bool.Decides.{same_from_decides}
use Rattle.std.proofs.lemmas.List.Folds.{list_any-append}
use Rattle.std.proofs.lemmas.Map.Views.{any-filter_same}
use Rattle.envvars.specs.Texts.{Text, has, slice_texts}
use Rattle.envvars.specs.Fields.{without}
use Rattle.std.specs.List.{list_any}

-- Tests of texts.

-- texts that pass the test are one
pub same_text : (x y : Text) → bytes_eq x y ≡ true → x ≡ y
same_text x y e = (bytes_eq-Decides x y).0 e

pub bytes_eq-same : (x : Text) → bytes_eq x x ≡ true
bytes_eq-same x = (bytes_eq-Decides x x).1 refl

or_false : (a b : Bool) → (a || (b || false)) ≡ (b || a)
or_false true true = refl
or_false true false = refl
or_false false true = refl
or_false false false = refl

pub has-push : (xs : List Text) (x y : Text) → has y (xs ++ x ∷ []) ≡ (bytes_eq y x || has y xs)
has-push xs x y = list_any-append (bytes_eq y) xs (x ∷ []) ∙ or_false (has y xs) (bytes_eq y x)

pub has-without : (xs : List Text) (x y : Text) → has y (without x xs) ≡ (not (bytes_eq y x) && has y xs)
has-without xs x y =
    any-filter_same (bytes_eq y) (λ z. not (bytes_eq z x)) (not (bytes_eq y x)) (λ z e. ap (λ (t : Text). not (bytes_eq t x)) (sym (same_text y z e))) xs

-- what a test refuses anyway may be taken out before it
filter_one : (p : Text → Bool) (x z : Text) (zs ws : List Text) (b : Bool) → bytes_eq z x ≡ b → p x ≡ false
    → filter p ws ≡ filter p zs → filter p (cond (not b) (z ∷ ws) ws) ≡ cond (p z) (z ∷ filter p zs) (filter p zs)
filter_one p x z zs ws true e q h =
    let f : p z ≡ false = ap p (same_text z x e) ∙ q in
    rw f h
filter_one p x z zs ws false e q h = ap (λ (l : List Text). cond (p z) (z ∷ l) l) h

pub filter-without : (p : Text → Bool) (x : Text) (xs : List Text) → p x ≡ false → filter p (without x xs) ≡ filter p xs
filter-without p x [] q = refl
filter-without p x (z ∷ zs) q = filter_one p x z zs (without x zs) (bytes_eq z x) refl q (filter-without p x zs q)

pub bytes_eq-symmetric : (x y : Text) → bytes_eq x y ≡ bytes_eq y x
bytes_eq-symmetric x y = same_from_decides (bytes_eq x y) (bytes_eq y x) (bytes_eq-Decides x y) ((λ e. sym ((bytes_eq-Decides y x).0 e)), (λ e. (bytes_eq-Decides y x).1 (sym e)))

pub or_left : (a b : Bool) → (a || b) ≡ false → a ≡ false
or_left true b e = e
or_left false b e = refl

pub or_right : (a b : Bool) → (a || b) ≡ false → b ≡ false
or_right true true e = e
or_right true false e = refl
or_right false b e = e

pub has-slice_texts : (x : Text) (xs : List (Bor Text)) → list_any (λ y. bytes_eq y.now x) xs ≡ has x (slice_texts xs)
has-slice_texts x [] = refl
has-slice_texts x (y ∷ ys) = ap (λ (b : Bool). b || list_any (λ z. bytes_eq z.now x) ys) (bytes_eq-symmetric y.now x) ∙ ap (λ (b : Bool). bytes_eq x y.now || b) (has-slice_texts x ys)

shown_cond : (b : Bool) (x : Bor Text) (xs : List (Bor Text)) → slice_texts (cond b (x ∷ xs) xs) ≡ cond b (x.now ∷ slice_texts xs) (slice_texts xs)
shown_cond true x xs = refl
shown_cond false x xs = refl

pub slice_texts-filter : (p : Text → Bool) (xs : List (Bor Text)) → slice_texts (filter (λ y. p y.now) xs) ≡ filter p (slice_texts xs)
slice_texts-filter p [] = refl
slice_texts-filter p (z ∷ zs) = shown_cond (p z.now) z _ ∙ ap (λ (l : List Text). cond (p z.now) (z.now ∷ l) l) (slice_texts-filter p zs)

-- Copies of texts, and of groups of texts.
use Rattle.std.proofs.Common.{◌≡◌, List, [], ◌∷◌, map, refl, string_bytes, vec_len, Vec, Global}
use Rattle.std.specs.List.{AllZip}
use Rattle.std.specs.declared.string.String.{String}
use Rattle.envvars.specs.Texts.{texts_in}
use Rattle.envstate.specs.loaded_list.LoadedEntries.{groups_in}

same_views : {A : Type 0} (R : A → A → Type 0) {B : Type 0} (f : A → B) → ((x y : A) → R x y → f y ≡ f x) → (xs ys : List A) → AllZip R xs ys → map f ys ≡ map f xs
same_views R f h [] [] a = refl
same_views R f h [] (y ∷ ys) a = absurd a
same_views R f h (x ∷ xs) [] a = absurd a
same_views R f h (x ∷ xs) (y ∷ ys) a = rw (h x y a.0, same_views R f h xs ys a.1) refl

pub names_copied : (v w : Vec (String Global) Global) → AllZip (λ s t. string_bytes t ≡ string_bytes s) v.items w.items → texts_in w ≡ texts_in v
names_copied v w a = same_views (λ s t. string_bytes t ≡ string_bytes s) string_bytes (λ s t e. e) v.items w.items a

pub groups_copied : (v w : Vec (Vec (String Global) Global) Global)
    → AllZip (λ x y. AllZip (λ s t. string_bytes t ≡ string_bytes s) x.items y.items × (vec_len y ≡ vec_len x)) v.items w.items → groups_in w ≡ groups_in v
groups_copied v w a = same_views _ texts_in (λ x y e. names_copied x y e.0) v.items w.items a

-- Directories that are put together, each once, and the keys of the code's set.
use Rattle.std.proofs.Common.{◌≡◌, ℕ, Bool, true, false, cond, ◌||◌, ◌+◌, ◌<◌, length, get_or, take, List, [], ◌∷◌}
use Rattle.std.proofs.Common.{◌++◌, String, Global, map, refl, sym, ap, ◌∙◌}
use Rattle.std.specs.Prelude.{bytes_eq, string_bytes}
use Rattle.std.specs.List.{list_any}
use Rattle.std.specs.String.{string_eq}
use Rattle.std.proofs.lemmas.List.{map-append, take_more}
use Rattle.indexmap.specs.IndexSet.{insert_key}
use Rattle.envvars.specs.Texts.{Text, has}
use Rattle.audit_laws.specs.site.DirectorySets.{with_directories}

pub with-append : (dirs xs ys : List Text) → with_directories dirs (xs ++ ys) ≡ with_directories (with_directories dirs xs) ys
with-append dirs [] ys = refl
with-append dirs (x ∷ xs) ys = with-append (insert_key bytes_eq dirs x) xs ys

-- with those of one item more
pub dirs_turn : {X : Type 0} (of : List X → List Text) → ((xs ys : List X) → of (xs ++ ys) ≡ of xs ++ of ys)
    → (start old new piece : List Text) (xs : List X) (i : ℕ) (d x : X) → i < length xs → x ≡ get_or xs i d
    → of (x ∷ []) ≡ piece → old ≡ with_directories start (of (take i xs)) → new ≡ with_directories old piece → new ≡ with_directories start (of (take (i + 1) xs))
dirs_turn {X} of append start old new piece xs i d x l e one h k =
    k ∙ (ap (λ (ds : List Text). with_directories ds piece) h
    ∙ (sym (with-append start (of (take i xs)) piece)
    ∙ ap (with_directories start) (ap (λ (ts : List Text). of (take i xs) ++ ts) (sym one)
    ∙ (sym (append (take i xs) (x ∷ [])) ∙ ap of (sym (take_more xs i d l ∙ ap (λ (y : X). take i xs ++ y ∷ []) (sym e)))))))

-- ---- a key of the code's set

any_key : (n : Text) (ks : List (String Global)) → list_any (λ k. bytes_eq n (string_bytes k)) ks ≡ has n (map string_bytes ks)
any_key n [] = refl
any_key n (k ∷ ks) = ap (λ b. bytes_eq n (string_bytes k) || b) (any_key n ks)

at_test : (ks : List (String Global)) (k : String Global) (b : Bool) → map string_bytes (cond b ks (ks ++ k ∷ [])) ≡ cond b (map string_bytes ks) (map string_bytes ks ++ string_bytes k ∷ [])
at_test ks k true = refl
at_test ks k false = map-append string_bytes ks (k ∷ [])

pub pushed : (ks new : List (String Global)) (k : String Global) → new ≡ insert_key string_eq ks k → map string_bytes new ≡ with_directories (map string_bytes ks) (string_bytes k ∷ [])
pushed ks new k e =
    ap (map string_bytes) e ∙ (at_test ks k (list_any (string_eq k) ks)
    ∙ ap (λ (b : Bool). cond b (map string_bytes ks) (map string_bytes ks ++ string_bytes k ∷ [])) (any_key (string_bytes k) ks))

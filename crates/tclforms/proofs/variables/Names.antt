-- Names that are among others.
use Rattle.std.proofs.Common.{◌≡◌, Bool, true, false, cond, ◌||◌, List, [], ◌∷◌, ◌++◌, map, String, Global, refl, sym}
use Rattle.std.proofs.Common.{ap, ◌∙◌}
use Rattle.std.specs.List.{list_any}
use Rattle.std.specs.String.{string_bytes, string_eq}
use Rattle.std.specs.Str.{bytes_eq}
use Rattle.std.proofs.lemmas.List.{map-append}
use Rattle.indexmap.specs.IndexSet.{insert_key}
use Rattle.tcltext.specs.chars.Runs.{Text}
use Rattle.tclrules.specs.Variables.{with_name}

pub any_named : (n : Text) (ks : List (String Global)) → list_any (λ k. bytes_eq n (string_bytes k)) ks ≡ list_any (bytes_eq n) (map string_bytes ks)
any_named n [] = refl
any_named n (k ∷ ks) = ap (λ b. bytes_eq n (string_bytes k) || b) (any_named n ks)

-- a name that is there adds nothing
pub with_there : (n : Text) (ks : List (String Global)) → list_any (λ k. bytes_eq n (string_bytes k)) ks ≡ true → map string_bytes ks ≡ with_name (map string_bytes ks) n
with_there n ks h = rw (sym (any_named n ks) ∙ h) refl

-- a key that is inserted is the name, at the end of the others
pub with_inserted : (ks new : List (String Global)) (k : String Global) → new ≡ insert_key string_eq ks k → map string_bytes new ≡ with_name (map string_bytes ks) (string_bytes k)
with_inserted ks new k e = ap (map string_bytes) e ∙ go (list_any (string_eq k) ks) refl
  where
    go : (b : Bool) → list_any (string_eq k) ks ≡ b → map string_bytes (cond b ks (ks ++ k ∷ [])) ≡ with_name (map string_bytes ks) (string_bytes k)
    go true h = rw (sym (any_named (string_bytes k) ks) ∙ h) refl
    go false h = rw (sym (any_named (string_bytes k) ks) ∙ h) (map-append string_bytes ks (k ∷ []))

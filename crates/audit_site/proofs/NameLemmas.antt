-- Which names mean a module.
use Rattle.std.proofs.Common.{◌≡◌, Bool, true, false, cond, ◌&&◌, ◌||◌, List, [], ◌∷◌, ◌++◌, map, String, Global}
use Rattle.std.proofs.Common.{string_bytes, refl, sym, ap, ◌∙◌, subst}
use Rattle.std.specs.Prelude.{bytes_eq}
use Rattle.std.specs.List.{list_any}
use Rattle.std.specs.String.{string_eq}
use Rattle.std.proofs.lemmas.List.{map-append}
use Rattle.indexmap.specs.IndexSet.{insert_key}
use Rattle.modulename.specs.ModuleName.{means}
use Rattle.envvars.specs.Texts.{Text, has}
use Rattle.envvars.proofs.TextLemmas.{same_text, bytes_eq-symmetric, has-push}
use Rattle.filetree.specs.Modulefiles.{path_of}
use Rattle.search.specs.Single.{is_single}
use Rattle.audit_site.specs.Mentions.{known_in}
use Rattle.audit_site.specs.Folders.{IsInFolder}
use Rattle.audit_site.proofs.FolderLemmas.{tail_single}

-- a name of one part is meant by itself alone
pub means_single : (name full : Text) → is_single full ≡ true → means name full ≡ bytes_eq full name
means_single [] [] h = refl
means_single [] (b ∷ bs) h = (tail_single b bs h).0
means_single (c ∷ cs) [] h = refl
means_single (c ∷ cs) (b ∷ bs) h = let i : means cs bs ≡ bytes_eq bs cs = means_single cs bs (tail_single b bs h).1 in rw i refl

and_or : (a b c : Bool) → (a && (b || c)) ≡ ((a && b) || (a && c))
and_or true b c = refl
and_or false b c = refl

or_none : (a : Bool) → (a || false) ≡ a
or_none true = refl
or_none false = refl

-- a name in a folder is meant by itself, and by what means the folder
pub means_joined : (name front last : Text) → is_single last ≡ true → means name (path_of front last) ≡ (bytes_eq (path_of front last) name || means name front)
means_joined [] [] last h = refl
means_joined (c ∷ cs) [] last h = let i : means cs last ≡ bytes_eq last cs = means_single cs last h in rw i (sym (or_none _))
means_joined [] (b ∷ front) last h = refl
means_joined (c ∷ cs) (b ∷ front) last h =
    let i : means cs (path_of front last) ≡ (bytes_eq (path_of front last) cs || means cs front) = means_joined cs front last h in
    rw i (and_or _ (bytes_eq (path_of front last) cs) (means cs front))

-- names that are inserted

pub any_named : (n : Text) (ks : List (String Global)) → list_any (λ k. bytes_eq n (string_bytes k)) ks ≡ known_in ks n
any_named n [] = refl
any_named n (k ∷ ks) = ap (λ b. bytes_eq n (string_bytes k) || b) (any_named n ks)

or_turned : (a b : Bool) → (a || b) ≡ (b || a)
or_turned true true = refl
or_turned true false = refl
or_turned false true = refl
or_turned false false = refl

there_already : (a b : Bool) → (b ≡ true → a ≡ true) → a ≡ (a || b)
there_already true b h = refl
there_already false true h = h refl
there_already false false h = refl

pub known_inserted : (ks new : List (String Global)) (k : String Global) (name : Text) → new ≡ insert_key string_eq ks k → known_in new name ≡ (known_in ks name || bytes_eq name (string_bytes k))
known_inserted ks new k name e = ap (λ (l : List (String Global)). known_in l name) e ∙ go (list_any (string_eq k) ks) refl
  where
    go : (b : Bool) → list_any (string_eq k) ks ≡ b → known_in (cond b ks (ks ++ k ∷ [])) name ≡ (known_in ks name || bytes_eq name (string_bytes k))
    go true h = there_already (known_in ks name) (bytes_eq name (string_bytes k))
        (λ t. ap (known_in ks) (same_text name (string_bytes k) t) ∙ (sym (any_named (string_bytes k) ks) ∙ h))
    go false h = ap (has name) (map-append string_bytes ks (k ∷ []))
        ∙ (has-push (map string_bytes ks) (string_bytes k) name ∙ or_turned (bytes_eq name (string_bytes k)) (known_in ks name))

or_assoc : (a b c : Bool) → ((a || b) || c) ≡ (a || (b || c))
or_assoc true b c = refl
or_assoc false b c = refl

-- and those that mean the folder
pub meaning_joined : (old mid new full by folder : Bool) → mid ≡ (old || by) → new ≡ (mid || folder) → full ≡ (by || folder) → new ≡ (old || full)
meaning_joined old mid new full by folder h k e = k ∙ (ap (λ (t : Bool). t || folder) h ∙ (or_assoc old by folder ∙ ap (λ (t : Bool). old || t) (sym e)))

pub inserted_single : (old new : List (String Global)) (k : String Global) (full name : Text) → string_bytes k ≡ full → new ≡ insert_key string_eq old k → is_single full ≡ true
    → known_in new name ≡ (known_in old name || means name full)
inserted_single old new k full name e h s =
    known_inserted old new k name h ∙ ap (λ (b : Bool). known_in old name || b) (ap (bytes_eq name) e ∙ (bytes_eq-symmetric name full ∙ sym (means_single name full s)))

pub inserted_in_folder : (old mid new : List (String Global)) (k : String Global) (full folder name : Text) → string_bytes k ≡ full → mid ≡ insert_key string_eq old k → IsInFolder full folder
    → known_in new name ≡ (known_in mid name || means name folder) → known_in new name ≡ (known_in old name || means name full)
inserted_in_folder old mid new k full folder name e h f more =
    let m : means name full ≡ (bytes_eq full name || means name folder) =
    subst (λ (t : Text). means name t ≡ (bytes_eq t name || means name folder)) (sym f.joined) (means_joined name folder f.version f.single) in
    meaning_joined (known_in old name) (known_in mid name) (known_in new name) (means name full) (bytes_eq full name) (means name folder)
    (known_inserted old mid k name h ∙ ap (λ (b : Bool). known_in old name || b) (ap (bytes_eq name) e ∙ bytes_eq-symmetric name full)) more m

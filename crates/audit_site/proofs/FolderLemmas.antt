-- Names in folders, and paths below directories.
use Rattle.std.proofs.Common.{Some, None, Option, Bor, subst, ◌+◌, ◌≡◌, ◌≢◌, ◌⊎◌, inl, inr, ℕ, ◌<◌}
use Rattle.std.proofs.Common.{◌==◌, Bool, true, false, not, ◌||◌, List, [], ◌∷◌, ◌++◌, length, get_or, take, drop}
use Rattle.std.proofs.Common.{append_assoc, refl, sym, ap, ◌∙◌, arith, suc, string_bytes, map, cond}
use Rattle.std.specs.List.{list_any}
use Rattle.std.specs.Str.{NoCharPasses}
use Rattle.std.specs.Str.Pattern.{RFindsChar, FindsTextSuffix, FindsCharSuffix, StripsSuffix}
use Rattle.std.proofs.lemmas.Bool.Decides.{nat_tests}
use Rattle.std.specs.Prelude.{MatchOption, bytes_eq, ◌↔◌}
use Rattle.std.proofs.lemmas.Bool.{false≢true, and_parts}
use Rattle.std.proofs.lemmas.List.{take-append-drop, append_cancel_right, length-append, map-append}
use Rattle.std.proofs.lemmas.Str.Pattern.{strip_suffix_char, NoCharPasses-char, drop_at_char}
use Rattle.modulename.specs.ModuleName.{Text, slash}
use Rattle.filetree.specs.Modulefiles.{path_of}
use Rattle.search.specs.Single.{is_single}
use Rattle.envvars.proofs.TextLemmas.{same_text}
use Rattle.indexmap.specs.IndexSet.{insert_key}
use Rattle.audit_certificate.specs.RecordUses.{IsAmong}
use Rattle.audit_site.specs.declared.defaults.Folder.{Folder}
use Rattle.audit_site.specs.contracts.defaults.FolderPartialEq.TheImpl as FolderPartialEq
use Rattle.audit_site.specs.declared.walk.Evaluation.{Evaluation}
use Rattle.audit_site.specs.Folders.{IsInFolder, FolderText, folder_view, HoldsModule, HoldsOneOf}
use Rattle.audit_certificate.proofs.UsedLemmas.{by_cases}
use Rattle.audit_certificate.proofs.Exact.{any_some}
use Rattle.audit_site.proofs.AmongLemmas.{among_one, among_map, one_more}

-- the last part of a name

no_slash : (b : ℕ) → b ≢ 47 → (b == 47) ≡ false
no_slash b ne = grind (arith, nat_tests)

none_is : (bs : Text) → ((i : ℕ) → i < length bs → get_or bs i 0 ≢ 47) → list_any (λ b. b == slash) bs ≡ false
none_is [] h = refl
none_is (b ∷ bs) h =
    rw (no_slash b (h 0 (omega arith)), none_is bs (λ i l. h (suc i) (omega arith))) refl

-- a text without the byte is one part
pub single : (bs : Text) → NoCharPasses (λ d. d == 47) bs → is_single bs ≡ true
single bs h = ap not (none_is bs (λ i l. NoCharPasses-char 47 bs i h (omega arith) l))

-- what is before and after the last such byte
pub in_folder : (bs front : Text) (i j : ℕ) → RFindsChar 47 bs (Some (i, j)) → front ≡ take i bs → IsInFolder bs front
in_folder bs front i j h e = record {
  version = drop j bs;
  joined = sym (take-append-drop i bs) ∙ (ap (λ (l : Text). take i bs ++ l) (drop_at_char 47 bs i j h.1 (omega arith)) ∙ ap (λ (l : Text). l ++ (47 ∷ drop j bs)) (sym e));
  single = single (drop j bs) h.0;
}

-- the folder of a name is one

single_parts : (t u : Bool) → not (t || u) ≡ true → (t ≡ false) × (not u ≡ true)
single_parts true u h = absurd (false≢true h)
single_parts false u h = (refl, h)

pub tail_single : (b : ℕ) (bs : Text) → is_single (b ∷ bs) ≡ true → ((b == 47) ≡ false) × (is_single bs ≡ true)
tail_single b bs h = single_parts (b == 47) (list_any (λ b. b == slash) bs) h

head_of : (a b : ℕ) (xs ys : Text) → a ∷ xs ≡ b ∷ ys → a ≡ b
head_of a b xs ys e = cc

tail_of : (a b : ℕ) (xs ys : Text) → a ∷ xs ≡ b ∷ ys → xs ≡ ys
tail_of a b xs ys e = cc

-- what is parted is not one part
pub parted : (front last : Text) → is_single (path_of front last) ≡ true → ⊥
parted [] last h = false≢true h
parted (b ∷ front) last h = parted front last (tail_single b (path_of front last) h).1

pub same_folder : (front last other another : Text) → is_single last ≡ true → is_single another ≡ true → path_of front last ≡ path_of other another → front ≡ other
same_folder [] last [] another s t e = refl
same_folder [] last (b ∷ other) another s t e =
    absurd (parted other another (subst (λ (l : Text). is_single l ≡ true) (tail_of 47 b last (path_of other another) e) s))
same_folder (b ∷ front) last [] another s t e =
    absurd (parted front last (subst (λ (l : Text). is_single l ≡ true) (sym (tail_of b 47 (path_of front last) another e)) t))
same_folder (b ∷ front) last (k ∷ other) another s t e =
    let h : b ≡ k = head_of b k (path_of front last) (path_of other another) e in
    let i : front ≡ other = same_folder front last other another s t (tail_of b k (path_of front last) (path_of other another) e) in
    cc

-- a folder is shorter than a name in it
pub shorter : (name folder : Text) → IsInFolder name folder → length folder < length name
shorter name folder h = let e : length name ≡ length (path_of folder h.version) = ap length h.joined in omega (arith, length-append {A = ℕ})

-- the directory of a path

slash_joined : (dir name : Text) → path_of dir name ≡ (dir ++ 47 ∷ []) ++ name
slash_joined dir name = sym (append_assoc dir (47 ∷ []) name)

pub no_directory : (path name : Text) → ((front : Text) → path ≢ front ++ name) → (dir : Text) → path ≡ path_of dir name → ⊥
no_directory path name none dir e = none (dir ++ 47 ∷ []) (e ∙ slash_joined dir name)

pub same_directory : (dir other name : Text) → path_of dir name ≡ path_of other name → dir ≡ other
same_directory dir other name e =
    append_cancel_right dir other (47 ∷ name) e

before_slash : (path name mid : Text) (r : Option (Bor Text)) → path ≡ mid ++ name → MatchOption r ((front : Text) → mid ≢ front ++ 47 ∷ []) (λ x. mid ≡ x.now ++ 47 ∷ [])
    → MatchOption r ((dir : Text) → path ≡ path_of dir name → ⊥) (λ dir. path ≡ path_of dir.now name)
before_slash path name mid None e none = λ dir k. none dir (append_cancel_right mid (dir ++ 47 ∷ []) name (sym e ∙ (k ∙ slash_joined dir name)))
before_slash path name mid (Some dir) e h = e ∙ (ap (λ (l : Text). l ++ name) h ∙ sym (slash_joined dir.now name))

pub directory : (path name mid : Text) (r : Option (Bor Text)) → StripsSuffix (FindsTextSuffix name) path mid
    → MatchOption r (FindsCharSuffix 47 mid None) (λ x. StripsSuffix (FindsCharSuffix 47) mid x.now)
    → MatchOption r ((dir : Text) → path ≡ path_of dir name → ⊥) (λ dir. path ≡ path_of dir.now name)
directory path name mid r h k =
    before_slash path name mid r (h.1.1 ∙ ap (λ (l : Text). l ++ name) (sym h.2)) (strip_suffix_char 47 mid r k (omega arith))

-- the folder and the directory of a module

pub in_none : (name path : Text) → is_single name ≡ true → (folder : FolderText) → HoldsModule folder name path → ⊥
in_none name path s folder h = parted folder.1 h.1.version (subst (λ (l : Text). is_single l ≡ true) h.1.joined s)

pub holds_one : (name path dir front : Text) → path ≡ path_of dir name → IsInFolder name front → (folder : FolderText) → HoldsModule folder name path → (dir, front) ≡ folder
holds_one name path dir front e f folder h =
    let d : dir ≡ folder.0 = same_directory dir folder.0 name (sym e ∙ h.0) in
    let n : front ≡ folder.1 = same_folder front f.version folder.1 h.1.version f.single h.1.single (sym f.joined ∙ h.1.joined) in
    λ i. (d i, n i)

pub some_folder : (a b : FolderText) → Some a ≡ Some b → a ≡ b
some_folder a b e = cc

pub no_folder : (a : FolderText) → None ≡ Some a → ⊥
no_folder a e = cc

-- ---- folders, each once

-- one more, which may be there already
pub inserted_folder : (eq : Folder → Folder → Bool) → ((a b : Folder) → eq a b ≡ true → folder_view a ≡ folder_view b) → (ks new : List Folder) (k : Folder) → new ≡ insert_key eq ks k
    → (folder : FolderText) → IsAmong folder (map folder_view new) ↔ (IsAmong folder (map folder_view ks) ⊎ (folder ≡ folder_view k))
inserted_folder eq same ks new k e folder =
    subst (λ (l : List Folder). IsAmong folder (map folder_view l) ↔ (IsAmong folder (map folder_view ks) ⊎ (folder ≡ folder_view k))) (sym e) (go (list_any (eq k) ks) refl)
  where
    there : list_any (eq k) ks ≡ true → folder ≡ folder_view k → IsAmong folder (map folder_view ks)
    there h f =
        let i = any_some (eq k) ks h in
        subst (λ (t : FolderText). IsAmong t (map folder_view ks)) (sym (f ∙ same k i.0 i.2)) (among_map folder_view i.0 ks i.1)

    go : (b : Bool) → list_any (eq k) ks ≡ b → IsAmong folder (map folder_view (cond b ks (ks ++ k ∷ []))) ↔ (IsAmong folder (map folder_view ks) ⊎ (folder ≡ folder_view k))
    go true h = ((λ a. inl a), (λ a. by_cases a (λ b. b) (λ f. there h f)))
    go false h = subst (λ (l : List FolderText). IsAmong folder l ↔ (IsAmong folder (map folder_view ks) ⊎ (folder ≡ folder_view k))) (sym (map-append folder_view ks (k ∷ [])))
        (among_one folder (folder_view k) (map folder_view ks))

-- the folders of one module more
pub folders_more : (old new : List Folder) (modules : List Evaluation) (i : ℕ) (m : Evaluation) → i < length modules → m ≡ get_or modules i m
    → ((folder : FolderText) → IsAmong folder (map folder_view old) ↔ HoldsOneOf (take i modules) folder)
    → ((folder : FolderText) → IsAmong folder (map folder_view new) ↔ (IsAmong folder (map folder_view old) ⊎ HoldsModule folder (string_bytes m.name) (string_bytes m.path)))
    → (folder : FolderText) → IsAmong folder (map folder_view new) ↔ HoldsOneOf (take (i + 1) modules) folder
folders_more old new modules i m l e before turn folder =
    let P : (Evaluation → Type 0) = λ k. HoldsModule folder (string_bytes k.name) (string_bytes k.path) in
    let more = one_more P modules i m l e in (
      (λ a. more.0 (by_cases ((turn folder).0 a) (λ b. inl ((before folder).0 b)) (λ h. inr h))),
      (λ a. (turn folder).1 (by_cases (more.1 a) (λ b. inl ((before folder).1 b)) (λ h. inr h))),
    )

pub same_view : (a b : Folder) → (FolderPartialEq.eq-value).it a b ≡ true → folder_view a ≡ folder_view b
same_view a b h =
    let p = and_parts (bytes_eq (string_bytes a.dir) (string_bytes b.dir)) (bytes_eq (string_bytes a.name) (string_bytes b.name)) h in
    let d : string_bytes a.dir ≡ string_bytes b.dir = same_text (string_bytes a.dir) (string_bytes b.dir) p.0 in
    let n : string_bytes a.name ≡ string_bytes b.name = same_text (string_bytes a.name) (string_bytes b.name) p.1 in
    λ i. (d i, n i)

-- the folder that is found of a module
pub found_folder : (name path dir front : Text) → path ≡ path_of dir name → IsInFolder name front → (f : FolderText) → f ≡ (dir, front)
    → (folder : FolderText) → (Some f ≡ Some folder) ↔ HoldsModule folder name path
found_folder name path dir front e i f same folder = (
  (λ s. subst (λ (t : FolderText). HoldsModule t name path) (sym same ∙ some_folder f folder s) (e, i)),
  (λ h. ap (λ (t : FolderText). Some t) (same ∙ holds_one name path dir front e i folder h)),
)

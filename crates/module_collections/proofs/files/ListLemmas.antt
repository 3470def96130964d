-- Names in folders, and in sets.
use Rattle.std.proofs.Common.{◌≡◌, ℕ, zero, suc, Bool, true, false, cond, ◌||◌, ◌&&◌, List, [], ◌∷◌, refl, sym, ap, ◌∙◌, inr}
use Rattle.std.proofs.Common.{◌+◌, ◌<◌, ◌≤◌, length, get_or, drop, map, string_bytes, String, Global, arith}
use Rattle.std.specs.Prelude.{bytes_eq, is_some, Option, Some, None, Result, Ok, Err, IfErr, IfSome, OnOk}
use Rattle.std.specs.List.{list_any}
use Rattle.envvars.specs.Texts.{Text, has}
use Rattle.envvars.proofs.TextLemmas.{bytes_eq-same, same_text}
use Rattle.module_collections.specs.files.Entries.{Entry, Entries, nothing, file, folder, link, other, bytes_at_end}
use Rattle.module_collections.specs.files.Entries.{bytes_in, in_folder, is_there, leads, led_on, max_links}
use Rattle.module_collections.specs.files.Failures.{Failure, IsAtOne, IsInFolder, failure_of}
use Rattle.module_collections.specs.files.Names.{is_collection_name}
use Rattle.module_collections.specs.files.Lists.{is_in, leads_to_file}
use Rattle.module_collections.specs.declared.files.fault.FileFault.{FileFault}
use Rattle.module_collections.proofs.files.EndLemmas.{some_as}

pub map_on : {A E : Type 0} (r : Result A E) (P Q : Type 0) → (P → Q) → OnOk r P → OnOk r Q
map_on (Ok x) P Q f h = f h
map_on (Err e) P Q f h = tt

pub or_cond : (t c : Bool) → cond t true c ≡ (c || t)
or_cond true true = refl
or_cond true false = refl
or_cond false true = refl
or_cond false false = refl

pub or_none : (c : Bool) → c ≡ (c || false)
or_none true = refl
or_none false = refl

pub or_same : (a b c : Bool) → ((a || b) || c) ≡ (a || (b || c))
or_same true b c = refl
or_same false b c = refl

pub and_all : (a : Bool) → (a && true) ≡ a
and_all true = refl
and_all false = refl

pub and_none : (a : Bool) → (a && false) ≡ false
and_none true = refl
and_none false = refl

or_and : (t a b : Bool) → ((t && b) || (a && b)) ≡ ((t || a) && b)
or_and true true true = refl
or_and true true false = refl
or_and true false true = refl
or_and true false false = refl
or_and false a b = refl

at_name : (q n : Text) (is : Text → Bool) (t : Bool) → bytes_eq q n ≡ t → (t && is n) ≡ (t && is q)
at_name q n is true e = ap is (sym (same_text q n e))
at_name q n is false e = refl

-- a name that is among them, and for which the test holds
pub any_is : (q : Text) (is : Text → Bool) (names : List Text)
    → list_any (λ n. bytes_eq q n && is n) names ≡ (has q names && is q)
any_is q is [] = refl
any_is q is (n ∷ names) =
    ap (λ (b : Bool). b || list_any (λ m. bytes_eq q m && is m) names) (at_name q n is (bytes_eq q n) refl)
    ∙ (ap (λ (b : Bool). (bytes_eq q n && is q) || b) (any_is q is names) ∙ or_and (bytes_eq q n) (has q names) (is q))

nothing_leads : (n : ℕ) (e : Entries) (p : Text) → e p ≡ nothing → leads n e p ≡ Some p
nothing_leads zero e p is = ap (λ (x : Entry). led_on (λ q. None) p x) is
nothing_leads (suc n) e p is = ap (λ (x : Entry). led_on (λ q. leads n e q) p x) is

no_file_there : (e : Entries) (p : Text) → e p ≡ nothing → leads_to_file e p ≡ false
no_file_there e p is =
    ap (λ (o : Option Text). is_some (bytes_at_end e o)) (nothing_leads max_links e p is)
    ∙ ap (λ (x : Entry). is_some (bytes_in x)) is

there_case : (e : Entries) (p : Text) (x : Entry) → e p ≡ x → (is_there x && leads_to_file e p) ≡ leads_to_file e p
there_case e p nothing is = sym (no_file_there e p is)
there_case e p (file bytes) is = refl
there_case e p folder is = refl
there_case e p (link target) is = refl
there_case e p other is = refl

listed_case : (e : Entries) (path q : Text) (names : List Text) (t : Bool) → is_collection_name q ≡ t
    → (is_collection_name q ≡ true → has q names ≡ is_there (e (in_folder path q)))
    → (has q names && (t && leads_to_file e (in_folder path q))) ≡ (t && leads_to_file e (in_folder path q))
listed_case e path q names true k h =
    ap (λ (b : Bool). b && leads_to_file e (in_folder path q)) (h k)
    ∙ there_case e (in_folder path q) (e (in_folder path q)) refl
listed_case e path q names false k h = and_none (has q names)

-- by the names in a folder, which of them are those of its collections
pub listed_is : (e : Entries) (path q : Text) (names : List Text)
    → (is_collection_name q ≡ true → has q names ≡ is_there (e (in_folder path q)))
    → list_any (λ n. bytes_eq q n && is_in e path n) names ≡ is_in e path q
listed_is e path q names h =
    any_is q (is_in e path) names ∙ listed_case e path q names (is_collection_name q) refl h

-- a test of some of the names from a place on is that of the one there and of those behind
pub any_at : (p : Text → Bool) (names : List (String Global)) (i : ℕ) (x : String Global) → i < length names
    → x ≡ get_or names i x
    → list_any p (map string_bytes (drop i names)) ≡ (p (string_bytes x) || list_any p (map string_bytes (drop (i + 1) names)))
any_at p [] i x l e = absurd (omega (arith, l))
any_at p (n ∷ ns) zero x l e = ap (λ (y : String Global). p (string_bytes y) || list_any p (map string_bytes ns)) (sym e)
any_at p (n ∷ ns) (suc i) x l e =
    let next : suc (i + 1) ≡ suc i + 1 = omega arith in
    any_at p ns i x (omega (arith, l)) e
    ∙ ap (λ (k : ℕ). p (string_bytes x) || list_any p (map string_bytes (drop k (n ∷ ns)))) next

pub any_end : (p : Text → Bool) (names : List (String Global)) (i : ℕ) → length names ≤ i
    → list_any p (map string_bytes (drop i names)) ≡ false
any_end p [] zero l = refl
any_end p [] (suc i) l = refl
any_end p (n ∷ ns) zero l = absurd (omega (arith, l))
any_end p (n ∷ ns) (suc i) l = any_end p ns i (omega (arith, l))

-- ---- where a listing failed

or_true : (b : Bool) → (b || true) ≡ true
or_true true = refl
or_true false = refl

-- the name at a place is one of the names
pub is_one : (names : List (String Global)) (i : ℕ) (x : String Global) → i < length names → x ≡ get_or names i x
    → has (string_bytes x) (map string_bytes names) ≡ true
is_one [] i x l e = absurd (omega (arith, l))
is_one (n ∷ ns) zero x l e =
    ap (λ (y : String Global). bytes_eq (string_bytes x) (string_bytes y) || has (string_bytes x) (map string_bytes ns)) (sym e)
    ∙ ap (λ (b : Bool). b || has (string_bytes x) (map string_bytes ns)) (bytes_eq-same (string_bytes x))
is_one (n ∷ ns) (suc i) x l e =
    ap (λ (b : Bool). bytes_eq (string_bytes x) (string_bytes n) || b) (is_one ns i x (omega (arith, l)) e)
    ∙ or_true (bytes_eq (string_bytes x) (string_bytes n))

-- at the path of one of the names in a folder, which is there by what the folder has
pub failed_in_folder : (e : Entries) (path : Text) (names : List Text)
    → ((q : Text) → is_collection_name q ≡ true → has q names ≡ is_there (e (in_folder path q)))
    → (f : Failure) → IsAtOne path names f → IsInFolder e path f
failed_in_folder e path names all f h = inr (h.0, sym (all h.0 h.2.0) ∙ h.1, h.2)

-- a failure of a call is one of the caller
pub fails_as : {X : Type 0} (r : Result X FileFault) (P Q : Failure → Type 0) → ((f : Failure) → P f → Q f)
    → IfErr r (λ fault. IfSome (failure_of fault) P) → IfErr r (λ fault. IfSome (failure_of fault) Q)
fails_as (Ok x) P Q more h = tt
fails_as (Err fault) P Q more h = some_as (failure_of fault) P Q more h

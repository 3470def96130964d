-- Files and directories without what stands at some paths.
use Rattle.std.proofs.Common.{◌≡◌, inr, ℕ, Bool, true, false, ◌||◌, List, [], ◌∷◌, ◌++◌, map, refl, ap, sym, subst, ◌∙◌, Option, None, bytes_eq, if◌then◌else◌}
use Rattle.std.proofs.Common.{String, Global, string_bytes, Result, Ok, Err}
use Rattle.std.specs.Option.{ForSome}
use Rattle.std.specs.List.{list_any}
use Rattle.std.proofs.lemmas.List.{map-append}
use Rattle.std.proofs.lemmas.Bool.{false≢true}
use Rattle.std.proofs.lemmas.List.Elements.{All-weaker}
use Rattle.std.proofs.lemmas.List.Folds.{list_any-append}
use Rattle.std.proofs.lemmas.Slice.Eq.{bytes_eq-Decides}
use Rattle.message.specs.Messages.{Text}
use Rattle.filetree.specs.Agreement.{Files, Listings, InEachPair, Narrows, FailsAt, FailsIf, is_device}
use Rattle.filetree.specs.declared.tree.TreeFault.{TreeFault}
use Rattle.filetree.specs.declared.tree.TreeFault.TheVariants.{Device}
use Rattle.filetree.specs.hiding.Hidden.{AgreesWithout, AllFailed, AreApart, MayAgreeWithout, MayBeLeft, is_among, without}
use Rattle.filetree.specs.hiding.Left.{left_without}

-- one of the elements passes a test of what it stands for
pub any_seen : {A B : Type 0} (p : B → Bool) (v : A → B) (xs : List A) → list_any (λ x. p (v x)) xs ≡ list_any p (map v xs)
any_seen p v [] = refl
any_seen p v (x ∷ xs) = ap (λ b. p (v x) || b) (any_seen p v xs)

-- ---- paths

pub or_nothing : (b : Bool) → (b || false) ≡ b
or_nothing true = refl
or_nothing false = refl

pub or_true : (b : Bool) → (b || true) ≡ true
or_true true = refl
or_true false = refl

-- what is among paths with one more
pub among_more : (paths : List Text) (path q : Text) → is_among (paths ++ path ∷ []) q ≡ (is_among paths q || bytes_eq q path)
among_more paths path q = list_any-append (bytes_eq q) paths (path ∷ []) ∙ ap (λ b. is_among paths q || b) (or_nothing (bytes_eq q path))

-- the one more is
pub among_last : (paths : List Text) (path : Text) → is_among (paths ++ path ∷ []) path ≡ true
among_last paths path = among_more paths path path ∙ (ap (λ b. is_among paths path || b) ((bytes_eq-Decides path path).1 refl) ∙ or_true (is_among paths path))

-- a path that isn't the one, or is none of some, whatever that is
not_both : (paths : List Text) (path q : Text) → is_among paths path ≡ false → bytes_eq q path ≡ true → is_among paths q ≡ false
not_both paths path q none same = ap (is_among paths) ((bytes_eq-Decides q path).0 same) ∙ none

one_more : (a b s : Bool) → (a ≡ true → s ≡ false) → (b ≡ true → s ≡ false) → (a || b) ≡ true → s ≡ false
one_more true b s one other h = one refl
one_more false b s one other h = other h

-- if nothing was seen at a path, it can be hidden
pub apart_hidden : (older seen : List Text) (path : Text) → AreApart older seen → is_among seen path ≡ false → AreApart (older ++ path ∷ []) seen
apart_hidden older seen path apart none =
    λ q h. one_more (is_among older q) (bytes_eq q path) (is_among seen q) (apart q) (not_both seen path q none) (sym (among_more older path q) ∙ h)

neither : (a b : Bool) → a ≡ false → b ≡ false → (a || b) ≡ false
neither true b h k = h
neither false b h k = k

differs : (hidden : List Text) (path q : Text) (b : Bool) → bytes_eq q path ≡ b → is_among hidden path ≡ false → is_among hidden q ≡ true → b ≡ false
differs hidden path q false e shown h = refl
differs hidden path q true e shown h = sym h ∙ not_both hidden path q shown e

-- if a path isn't hidden, something can be seen there
pub apart_seen : (hidden older : List Text) (path : Text) → AreApart hidden older → is_among hidden path ≡ false → AreApart hidden (older ++ path ∷ [])
apart_seen hidden older path apart shown =
    λ q h. among_more older path q ∙ neither (is_among older q) (bytes_eq q path) (apart q h) (differs hidden path q (bytes_eq q path) refl shown h)

-- the paths after a push, which may fail
pub pushed : (olds news : List (String Global)) (value : String Global) (path : Text) (done : Bool) (P : List Text → Type 0) → news ≡ (if done then olds ++ value ∷ [] else olds) → string_bytes value ≡ path
    → P (map (λ (s : String Global). string_bytes s) olds) → P (map (λ (s : String Global). string_bytes s) olds ++ path ∷ []) → P (map (λ (s : String Global). string_bytes s) news)
pushed olds news value path true P items is before after =
    subst P (sym (ap (map (λ (s : String Global). string_bytes s)) items ∙ (map-append (λ (s : String Global). string_bytes s) olds (value ∷ [])
    ∙ ap (λ x. map (λ (s : String Global). string_bytes s) olds ++ x ∷ []) is))) after
pushed olds news value path false P items is before after = subst P (sym (ap (map (λ (s : String Global). string_bytes s)) items)) before

-- ---- what may be left

-- where something was seen all is left
all_left : {X : Type 0} (hidden seen : Bool) (there left : Option X) → hidden ≡ false → seen ≡ true → MayBeLeft hidden seen there left → left ≡ there
all_left true seen there left h s m = absurd (cc)
all_left false true there left h s m = m
all_left false false there left h s m = absurd (cc)

-- where it is hidden nothing is
none_left : {X : Type 0} (hidden seen : Bool) (there left : Option X) → hidden ≡ true → MayBeLeft hidden seen there left → left ≡ None
none_left true seen there left h m = m
none_left false seen there left h m = absurd (cc)

-- what may be left where one path more is hidden might have been left before
left_before : {X : Type 0} (hidden seen more : Bool) (there left : Option X) → (more ≡ true → seen ≡ false) → MayBeLeft (hidden || more) seen there left → MayBeLeft hidden seen there left
left_before true seen more there left unseen m = m
left_before false true true there left unseen m = let bad : true ≡ false = unseen refl in absurd (cc)
left_before false true false there left unseen m = m
left_before false false true there left unseen m = inr m
left_before false false false there left unseen m = m

-- a file that was seen, or the names in a directory, have the property that they have in each pair that agrees
pub file_seen : (hidden older seen : List Text) (agrees : Files → Listings → Type 0) (path : Text) (P : Option (List ℕ) → Type 0) → is_among hidden path ≡ false → seen ≡ older ++ path ∷ []
    → InEachPair agrees (λ files folders. P (files path)) → InEachPair (MayAgreeWithout hidden seen agrees) (λ files folders. P (files path))
file_seen hidden older seen agrees path P shown kept holds = λ files folders a.
    subst P (sym (all_left (is_among hidden path) (is_among seen path) (a.all_files path) (files path) shown (ap (λ s. is_among s path) kept ∙ among_last older path) (a.files_left path)))
    (holds a.all_files a.all_folders a.agree)

pub folder_seen : (hidden older seen : List Text) (agrees : Files → Listings → Type 0) (path : Text) (P : Option (List Text) → Type 0) → is_among hidden path ≡ false → seen ≡ older ++ path ∷ []
    → InEachPair agrees (λ files folders. P (folders path)) → InEachPair (MayAgreeWithout hidden seen agrees) (λ files folders. P (folders path))
folder_seen hidden older seen agrees path P shown kept holds = λ files folders a.
    subst P (sym (all_left (is_among hidden path) (is_among seen path) (a.all_folders path) (folders path) shown (ap (λ s. is_among s path) kept ∙ among_last older path) (a.folders_left path)))
    (holds a.all_files a.all_folders a.agree)

-- at a path that was hidden last is no file and no directory
pub file_hidden : (older hidden seen : List Text) (agrees : Files → Listings → Type 0) (path : Text) → hidden ≡ older ++ path ∷ [] → InEachPair (MayAgreeWithout hidden seen agrees) (λ files folders. files path ≡ None)
file_hidden older hidden seen agrees path kept = λ files folders a.
    none_left (is_among hidden path) (is_among seen path) (a.all_files path) (files path) (ap (λ h. is_among h path) kept ∙ among_last older path) (a.files_left path)

pub folder_hidden : (older hidden seen : List Text) (agrees : Files → Listings → Type 0) (path : Text) → hidden ≡ older ++ path ∷ [] → InEachPair (MayAgreeWithout hidden seen agrees) (λ files folders. folders path ≡ None)
folder_hidden older hidden seen agrees path kept = λ files folders a.
    none_left (is_among hidden path) (is_among seen path) (a.all_folders path) (folders path) (ap (λ h. is_among h path) kept ∙ among_last older path) (a.folders_left path)

-- the pairs that may be left where one path more is hidden might have been left before
fewer_by_one : (older seen : List Text) (before now : Files → Listings → Type 0) (path : Text) → is_among seen path ≡ false → Narrows before now
    → Narrows (MayAgreeWithout older seen before) (MayAgreeWithout (older ++ path ∷ []) seen now)
fewer_by_one older seen before now path unseen narrows = λ files folders a. record {
  all_files = a.all_files;
  all_folders = a.all_folders;
  agree = narrows a.all_files a.all_folders a.agree;
  files_left = λ q. left_before (is_among older q) (is_among seen q) (bytes_eq q path) (a.all_files q) (files q) (not_both seen path q unseen)
      (subst (λ h. MayBeLeft h (is_among seen q) (a.all_files q) (files q)) (among_more older path q) (a.files_left q));
  folders_left = λ q. left_before (is_among older q) (is_among seen q) (bytes_eq q path) (a.all_folders q) (folders q) (not_both seen path q unseen)
      (subst (λ h. MayBeLeft h (is_among seen q) (a.all_folders q) (folders q)) (among_more older path q) (a.folders_left q));
}

pub fewer_left : (older hidden seen later : List Text) (before now : Files → Listings → Type 0) (path : Text) → hidden ≡ older ++ path ∷ [] → later ≡ seen → is_among seen path ≡ false → Narrows before now
    → Narrows (MayAgreeWithout older seen before) (MayAgreeWithout hidden later now)
fewer_left older hidden seen later before now path kept same unseen narrows =
    subst (λ h. Narrows (MayAgreeWithout older seen before) (MayAgreeWithout h later now)) (sym kept)
    (subst (λ s. Narrows (MayAgreeWithout older seen before) (MayAgreeWithout (older ++ path ∷ []) s now)) (sym same)
    (fewer_by_one older seen before now path unseen narrows))

-- ---- for callers

-- the pairs without the hidden paths may be left
pub left_pairs : (hidden seen : List Text) (agrees : Files → Listings → Type 0) → AreApart hidden seen → InEachPair (AgreesWithout hidden agrees) (MayAgreeWithout hidden seen agrees)
left_pairs hidden seen agrees apart = λ files folders a.
    subst (λ f. MayAgreeWithout hidden seen agrees f folders) (sym a.files_left) (subst (λ l. MayAgreeWithout hidden seen agrees (without hidden a.all_files) l) (sym a.folders_left)
    (left_without hidden seen agrees apart a.all_files a.all_folders a.agree))

-- what holds of each pair that may be left holds of each pair, taken without the hidden paths
pub in_whole_pairs : (hidden seen : List Text) (agrees : Files → Listings → Type 0) (P : Files → Listings → Type 0) → AreApart hidden seen
    → InEachPair (MayAgreeWithout hidden seen agrees) P → InEachPair agrees (λ files folders. P (without hidden files) (without hidden folders))
in_whole_pairs hidden seen agrees P apart holds = λ files folders a.
    holds (without hidden files) (without hidden folders) (left_without hidden seen agrees apart files folders a)

-- ---- where the device has failed

-- a call forgets no path with failures
if_kept : (t : Bool) (before now : Text → Bool) (Where : Text → Type 0) → FailsIf t before now Where → (path : Text) → before path ≡ true → now path ≡ true
if_kept false before now Where h path was = subst (λ (f : Text → Bool). f path ≡ true) (sym h) was
if_kept true before now Where h path was = h.1.kept path was

pub failed_too : {X E : Type 0} (is_failure : E → Bool) (before now : Text → Bool) (result : Result X E) (Where : Text → Type 0) → FailsAt is_failure before now result Where
    → (path : Text) → before path ≡ true → now path ≡ true
failed_too is_failure before now (Ok x) Where h path was = subst (λ (f : Text → Bool). f path ≡ true) (sym h) was
failed_too is_failure before now (Err e) Where h path was = if_kept (is_failure e) before now Where h path was

pub all_failed_too : {X E : Type 0} (is_failure : E → Bool) (before now : Text → Bool) (result : Result X E) (Where : Text → Type 0) → FailsAt is_failure before now result Where
    → (paths : List Text) → AllFailed before paths → AllFailed now paths
all_failed_too is_failure before now result Where h paths all =
    All-weaker (λ path. before path ≡ true) (λ path. now path ≡ true) (failed_too is_failure before now result Where h) paths all

pub some_failed_too : {X E : Type 0} (is_failure : E → Bool) (before now : Text → Bool) (result : Result X E) (Where : Text → Type 0) → FailsAt is_failure before now result Where
    → (path : Option (String Global)) → ForSome path (λ p. before (string_bytes p) ≡ true) → ForSome path (λ p. now (string_bytes p) ≡ true)
some_failed_too is_failure before now result Where h path some = λ p e. failed_too is_failure before now result Where h (string_bytes p) (some p e)

-- a call that fails by the device at a path leaves it among those with failures
at_path : (t : Bool) (before now : Text → Bool) (path : Text) → FailsIf t before now (λ at. at ≡ path) → t ≡ true → now path ≡ true
at_path false before now path h e = absurd (false≢true e)
at_path true before now path h e = ap now (sym h.2) ∙ h.1.here

pub failed_now : (before now : Text → Bool) (fault : TreeFault) (path : Text) → FailsIf (is_device fault) before now (λ at. at ≡ path) → fault ≡ Device → now path ≡ true
failed_now before now fault path h is = at_path (is_device fault) before now path h (ap is_device is)

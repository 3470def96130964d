-- Directories that are judged one after another, and the faults of words that name none.
use Rattle.std.proofs.Common.{◌≡◌, ℕ, zero, suc, ◌+◌, ◌<◌, ◌≤◌, Bool, false, List, [], ◌∷◌, ◌++◌, length, get_or, map}
use Rattle.std.proofs.Common.{take, string_bytes, String, refl, sym, ap, ◌∙◌, subst, inl, inr, arith}
use Rattle.std.proofs.lemmas.List.{take_more, map-append}
use Rattle.std.specs.declared.alloc.Global.{Global}
use Rattle.requests.specs.Reasons.{RequestReason}
use Rattle.modules.specs.Answers.{cause_of}
use Rattle.envvars.specs.Texts.{Text}
use Rattle.envvars.specs.Environment.{Environment}
use Rattle.filetree.specs.Agreement.{FailsIf, Files, Listings, InEachPair, Narrows}
use Rattle.filetree.specs.Causes.{Cause, Applies, memory, device, because}
use Rattle.modules.proofs.FailureLemmas.{unfailed}
use Rattle.audit_site.specs.Looked as walks
use Rattle.audit_site.specs.declared.fault.WalkFault.{WalkFault}
use Rattle.audit_site.specs.declared.fault.WalkFault.TheVariants as faults
use Rattle.modaudit.specs.command.Audits.{IsDirectory, AreDirectories, IsFirstGone, IsNoDirectory, is_no_element}
use Rattle.modaudit.specs.command.Faults.{is_failure, of_walk}
use Rattle.modaudit.specs.command.Looked.{AreThere, DirectoriesLookAt}
use Rattle.modaudit.specs.command.Steps.{IsTransient, NamesNoDirectory, IsDirectoryFault, AreDirectoriesFault, IsFoundFault, IsModulepathFault}
use Rattle.modaudit.specs.declared.command.audit_fault.AuditFault.{AuditFault}
use Rattle.modaudit.specs.declared.command.audit_fault.AuditFault.TheVariants.{Refused, BadArguments, EmptyModulepath, TooManyDirectories, NotADirectory}
use Rattle.modaudit.specs.declared.command.audit_fault.AuditFault.TheVariants.{WriteFailed}

-- what failed in a later part failed in the whole
pub fails_later : (a b c : ℕ) → a ≤ b → b < c → a < c
fails_later a b c p q = omega arith

-- what failed in an earlier part failed in the whole
pub fails_before : (a b c : ℕ) → b ≤ c → a < b → a < c
fails_before a b c p q = omega arith

pub counts_both : (a b c : ℕ) → a ≤ b → b ≤ c → a ≤ c
counts_both a b c p q = omega arith

-- ---- causes

pub applies_in : {R : Type 0} (c : Cause R) (P Q : Type 0) (Is : R → Type 0) → (P → Q) → Applies c P Is → Applies c Q Is
applies_in memory P Q Is f h = tt
applies_in device P Q Is f h = f h
applies_in (because r) P Q Is f h = h

pub transient_in : (fault : AuditFault) (P Q : Type 0) → (P → Q) → IsTransient P fault → IsTransient Q fault
transient_in (Refused refusal) P Q f h = applies_in (cause_of refusal) P Q (λ (reason : RequestReason). ⊥) f h
transient_in BadArguments P Q f h = h
transient_in EmptyModulepath P Q f h = h
transient_in TooManyDirectories P Q f h = h
transient_in (NotADirectory dir) P Q f h = h
transient_in WriteFailed P Q f h = h

-- a word that names no directory, or want of memory
pub fault_of_word : (agrees : Files → Listings → Type 0) (failed : Type 0) (fault : AuditFault) (word : Text)
    → IsNoDirectory agrees word → NamesNoDirectory fault word → IsDirectoryFault agrees failed word fault
fault_of_word agrees failed fault word lacks (inl d) = inl (d.0, d.1, d.2, lacks)
fault_of_word agrees failed fault word lacks (inr h) = inr (transient_in fault ⊥ failed (λ x. absurd x) h)

-- ---- several directories

is_in : (P Q : Files → Listings → Type 0) (dir : Text) → Narrows P Q → IsDirectory P dir → IsDirectory Q dir
is_in P Q dir n h = record {
  is_element = h.is_element;
  listed = λ files listings agreed. h.listed files listings (n files listings agreed);
}

pub are_in : (P Q : Files → Listings → Type 0) (dirs : List Text) → Narrows P Q → AreDirectories P dirs → AreDirectories Q dirs
are_in P Q [] n h = tt
are_in P Q (dir ∷ dirs) n h = (is_in P Q dir n h.0, are_in P Q dirs n h.1)

and_one : (P : Files → Listings → Type 0) (dirs : List Text) (dir : Text) → AreDirectories P dirs → IsDirectory P dir → AreDirectories P (dirs ++ dir ∷ [])
and_one P [] dir h k = (k, tt)
and_one P (d ∷ dirs) dir h k = (h.0, and_one P dirs dir h.1 k)

-- the words so far, and one more
taken : (xs : List (String Global)) (i : ℕ) (x : String Global) → i < length xs → x ≡ get_or xs i x
    → map (λ (s : String Global). string_bytes s) (take (i + 1) xs) ≡ map (λ (s : String Global). string_bytes s) (take i xs) ++ string_bytes x ∷ []
taken xs i x l e =
    ap (map (λ (s : String Global). string_bytes s)) (take_more xs i x l ∙ ap
    (λ (y : String Global). take i xs ++ y ∷ []) (sym e))
    ∙ map-append (λ (s : String Global). string_bytes s) (take i xs) (x ∷ [])

pub directory_more : (P Q : Files → Listings → Type 0) (xs : List (String Global)) (i : ℕ) (x : String Global) → i < length xs → x ≡ get_or xs i x → Narrows P Q
    → AreDirectories P (map (λ (s : String Global). string_bytes s) (take i xs)) → IsDirectory Q (string_bytes x) → AreDirectories Q (map (λ (s : String Global). string_bytes s) (take (i + 1) xs))
directory_more P Q xs i x l e n h k =
    let so_far = map (λ (s : String Global). string_bytes s) (take i xs) in
    subst (λ (dirs : List Text). AreDirectories Q dirs) (sym (taken xs i x l e)) (and_one Q so_far (string_bytes x) (are_in P Q so_far n h) k)

-- ---- faults of several words

-- one of the words, by its place
placed : (xs : List (String Global)) (i : ℕ) (x : String Global) → i < length xs → x ≡ get_or xs i x
    → (after : List Text) × (map (λ (s : String Global). string_bytes s) xs ≡ map (λ (s : String Global). string_bytes s) (take i xs) ++ string_bytes x ∷ after)
placed [] i x l e = absurd (omega arith)
placed (y ∷ ys) zero x l e = (map (λ (s : String Global). string_bytes s) ys, ap (λ (s : String Global). string_bytes s ∷ map (λ (s : String Global). string_bytes s) ys) (sym e))
placed (y ∷ ys) (suc i) x l e = let later = placed ys i x (omega arith) e in (later.0, ap (λ (words : List Text). string_bytes y ∷ words) later.1)

pub fault_among : (before agrees : Files → Listings → Type 0) (failed all_failed : Type 0) (xs : List (String Global)) (i : ℕ) (x : String Global) (fault : AuditFault) → (failed → all_failed)
    → i < length xs → x ≡ get_or xs i x → Narrows before agrees
    → AreDirectories before (map (λ (s : String Global). string_bytes s) (take i xs))
    → IsDirectoryFault agrees failed (string_bytes x) fault
    → AreDirectoriesFault agrees all_failed (map (λ (s : String Global). string_bytes s) xs) fault
fault_among before agrees failed all_failed xs i x fault f l e n there (inl d) =
    let so_far = map (λ (s : String Global). string_bytes s) (take i xs) in
    let order = placed xs i x l e in
    inl (
      d.0,
      d.1,
      subst (λ (word : Text). IsFirstGone agrees (map (λ (s : String Global). string_bytes s) xs) word) (sym d.2)
          (record { before = so_far; after = order.0; order = order.1; there = are_in before agrees so_far n there; gone = d.3 }),
    )
fault_among before agrees failed all_failed xs i x fault f l e n there (inr h) = inr (transient_in fault failed all_failed f h)

-- ---- where a tree failed

are_there : (agrees : Files → Listings → Type 0) (files : Files) (listings : Listings) (dirs : List Text) → agrees files listings → AreDirectories agrees dirs → AreThere listings dirs
are_there agrees files listings [] a h = tt
are_there agrees files listings (dir ∷ dirs) a h = (h.0.is_element, h.0.listed files listings a, are_there agrees files listings dirs a h.1)

pub looks_in_turn : (before agrees : Files → Listings → Type 0) (xs : List (String Global)) (i : ℕ) (x : String Global) (at : Text) → i < length xs → x ≡ get_or xs i x → Narrows before agrees
    → AreDirectories before (map (λ (s : String Global). string_bytes s) (take i xs)) → (at ≡ string_bytes x) × (is_no_element (string_bytes x) ≡ false)
    → InEachPair agrees (λ files listings. DirectoriesLookAt listings (map (λ (s : String Global). string_bytes s) xs) at)
looks_in_turn before agrees xs i x at l e n there h = λ files listings a.
    let so_far = map (λ (s : String Global). string_bytes s) (take i xs) in
    let order = placed xs i x l e in
    subst (λ (path : Text). DirectoriesLookAt listings (map (λ (s : String Global). string_bytes s) xs) path) (sym h.0) (record {
      before = so_far;
      after = order.0;
      order = order.1;
      there = are_there before files listings so_far (n files listings a) there;
      is_element = h.1;
    })

pub all_there : (before agrees : Files → Listings → Type 0) (dirs : List Text) → Narrows before agrees → AreDirectories before dirs → InEachPair agrees (λ files listings. AreThere listings dirs)
all_there before agrees dirs n there = λ files listings a. are_there before files listings dirs (n files listings a) there

-- what is given up without a tree is no failure of the device
pub unfailed_without : (fault : AuditFault) (before now : List ℕ → Bool) (W : List ℕ → Type 0) → IsTransient ⊥ fault → now ≡ before → FailsIf (is_failure fault) before now W
unfailed_without (Refused refusal) before now W h same = unfailed refusal (λ reason. ⊥) before now W h same
unfailed_without BadArguments before now W h same = absurd h
unfailed_without EmptyModulepath before now W h same = absurd h
unfailed_without TooManyDirectories before now W h same = absurd h
unfailed_without (NotADirectory dir) before now W h same = absurd h
unfailed_without WriteFailed before now W h same = absurd h

pub names_unfailed : (fault : AuditFault) (word : Text) (before now : List ℕ → Bool) (W : List ℕ → Type 0) → NamesNoDirectory fault word → now ≡ before → FailsIf (is_failure fault) before now W
names_unfailed fault word before now W (inl d) same = subst (λ (f : AuditFault). FailsIf (is_failure f) before now W) (sym d.1) same
names_unfailed fault word before now W (inr h) same = unfailed_without fault before now W h same

-- a failure of the walk is one of the whole
pub walked_failure : (fault : WalkFault) → walks.is_failure fault ≡ is_failure (of_walk fault)
walked_failure (faults.Refused refusal) = refl
walked_failure faults.TooManyDirectories = refl

-- a MODULEPATH without a directory
pub modulepath_unfailed : (e : Environment) (fault : AuditFault) (before now : List ℕ → Bool) (W : List ℕ → Type 0) → IsModulepathFault e fault → now ≡ before → FailsIf (is_failure fault) before now W
modulepath_unfailed e fault before now W (inl d) same = subst (λ (f : AuditFault). FailsIf (is_failure f) before now W) (sym d.0) same
modulepath_unfailed e fault before now W (inr h) same = unfailed_without fault before now W h same

-- the fault of one, among those of what is found
pub modulepath_found : (agrees : Files → Listings → Type 0) (failed : Type 0) (judged : Environment) (dirs : List Text) (fault : AuditFault) → AreDirectories agrees dirs
    → IsModulepathFault judged fault → IsFoundFault agrees failed judged dirs fault
modulepath_found agrees failed judged dirs fault there (inl d) = inr (inl (d.0, there, d.1))
modulepath_found agrees failed judged dirs fault there (inr h) = inl (inr (transient_in fault ⊥ failed (λ (x : ⊥). absurd x) h))

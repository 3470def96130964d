-- Directories that are put together, each once, and those of one text.
use Rattle.std.proofs.Common.{◌≡◌, ◌⊎◌, inl, inr, ℕ, Bool, true, false, cond, not, ◌||◌, ◌==◌, List, [], ◌∷◌, ◌++◌}
use Rattle.std.proofs.Common.{filter, refl, sym, ap, ◌∙◌, subst, append-nil, append_assoc, Option, Some, None}
use Rattle.std.specs.Prelude.{bytes_eq, flat_map}
use Rattle.std.specs.List.{slice_split, onto_first}
use Rattle.std.proofs.lemmas.Bool.{false≢true}
use Rattle.indexmap.specs.IndexSet.{insert_key}
use Rattle.envvars.specs.Texts.{Text, has}
use Rattle.envvars.specs.Fields.{without_repeats}
use Rattle.envvars.proofs.TextLemmas.{same_text}
use Rattle.envvars.proofs.FieldLemmas.{without_repeats-step, without_repeats-start}
use Rattle.filetree.specs.Modulefiles.{colon, is_empty, directories}
use Rattle.audit_certificate.specs.RecordUses.{IsAmong, modulepath}
use Rattle.modulefile.specs.Records.{added_elements}
use Rattle.requests.specs.Steps as requests
use Rattle.audit_laws.specs.site.Sites.{Site, IsDirectory, first, added, directories_in, directories_by}
use Rattle.audit_laws.specs.site.DirectorySets.{with_directories}
use Rattle.audit_certificate.proofs.UsedLemmas.{by_cases, among_left, among_right}
use Rattle.audit_certificate.proofs.Exact.{filtered}
use Rattle.audit_site.proofs.AmongSites.{of_flat_map}

-- ---- each once

once_from : (ks xs : List Text) → ks ++ filter (λ y. not (has y ks)) (without_repeats xs) ≡ with_directories ks xs
once_from ks [] = append-nil ks
once_from ks (x ∷ xs) = sym (without_repeats-step ks xs x) ∙ once_from (insert_key bytes_eq ks x) xs

-- from none on they are the list without repeats
pub once : (xs : List Text) → with_directories [] xs ≡ without_repeats xs
once xs = sym (once_from [] xs) ∙ without_repeats-start [] (without_repeats xs) refl

one_more : (dirs : List Text) (x : Text) (b : Bool) → (rest : List Text) × (cond b dirs (dirs ++ x ∷ []) ≡ dirs ++ rest)
one_more dirs x true = ([], sym (append-nil dirs))
one_more dirs x false = (x ∷ [], refl)

-- those that were there stay first
pub begins : (dirs more : List Text) → (rest : List Text) × (with_directories dirs more ≡ dirs ++ rest)
begins dirs [] = ([], sym (append-nil dirs))
begins dirs (x ∷ more) =
    let p = begins (insert_key bytes_eq dirs x) more in
    let q = one_more dirs x (has x dirs) in
    (q.0 ++ p.0, p.1 ∙ (ap (λ (l : List Text). l ++ p.0) q.1 ∙ append_assoc dirs q.0 p.0))

pub stays : (d : Text) (dirs more : List Text) → IsAmong d dirs → IsAmong d (with_directories dirs more)
stays d dirs more a = let p = begins dirs more in subst (IsAmong d) (sym p.1) (among_left d dirs p.0 a)

or_cases : (a b : Bool) → (a || b) ≡ true → (a ≡ true) ⊎ (b ≡ true)
or_cases true b h = inl refl
or_cases false b h = inr h

pub among_by_test : (x : Text) (xs : List Text) → has x xs ≡ true → IsAmong x xs
among_by_test x [] h = absurd (false≢true h)
among_by_test x (y ∷ xs) h = by_cases (or_cases (bytes_eq x y) (has x xs) h) (λ t. inl (same_text x y t)) (λ t. inr (among_by_test x xs t))

put : (dirs : List Text) (x : Text) (b : Bool) → has x dirs ≡ b → IsAmong x (cond b dirs (dirs ++ x ∷ []))
put dirs x true h = among_by_test x dirs h
put dirs x false h = among_right x dirs (x ∷ []) (inl refl)

-- and each of the others is there
pub comes : (d : Text) (dirs more : List Text) → IsAmong d more → IsAmong d (with_directories dirs more)
comes d dirs [] a = absurd a
comes d dirs (x ∷ more) (inl e) = subst (λ (t : Text). IsAmong t (with_directories dirs (x ∷ more))) (sym e) (stays x (insert_key bytes_eq dirs x) more (put dirs x (has x dirs) refl))
comes d dirs (x ∷ more) (inr a) = comes d (insert_key bytes_eq dirs x) more a

one_of : (d : Text) (dirs : List Text) (x : Text) (b : Bool) → IsAmong d (cond b dirs (dirs ++ x ∷ [])) → IsAmong d dirs ⊎ (d ≡ x)
one_of d dirs x true a = inl a
one_of d [] x false (inl e) = inr e
one_of d [] x false (inr a) = absurd a
one_of d (y ∷ dirs) x false (inl e) = inl (inl e)
one_of d (y ∷ dirs) x false (inr a) = by_cases (one_of d dirs x false a) (λ b. inl (inr b)) (λ e. inr e)

-- nothing else is
pub came : (d : Text) (dirs more : List Text) → IsAmong d (with_directories dirs more) → IsAmong d dirs ⊎ IsAmong d more
came d dirs [] a = inl a
came d dirs (x ∷ more) a =
    by_cases (came d (insert_key bytes_eq dirs x) more a)
    (λ b. by_cases (one_of d dirs x (has x dirs) b) (λ k. inl k) (λ e. inr (inl e)))
    (λ b. inr (inr b))

-- ---- one directory has no colon, and is the only one of its own text

abbrev is_colon : ℕ → Bool
is_colon b = b == colon

abbrev IsPart : Text → Type 0
IsPart t = slice_split is_colon t ≡ t ∷ []

abbrev AreParts : List Text → Type 0
AreParts [] = Unit {0}
AreParts (t ∷ ts) = IsPart t × AreParts ts

split_at : (x : ℕ) (xs : Text) (b : Bool) → is_colon x ≡ b → slice_split is_colon xs ≡ xs ∷ [] → b ≡ false → IsPart (x ∷ xs)
split_at x xs true t h e = absurd (false≢true (sym e))
split_at x xs false t h e =
    ap (λ (b : Bool). cond b ([] ∷ slice_split is_colon xs) (onto_first x (slice_split is_colon xs))) t ∙ ap (onto_first x) h

more_first : (x : ℕ) (ts : List Text) → is_colon x ≡ false → AreParts ts → AreParts (onto_first x ts)
more_first x [] t h = (split_at x [] false t refl refl, tt)
more_first x (y ∷ ts) t h = (split_at x y false t h.0 refl, h.1)

parts_by : (x : ℕ) (ts : List Text) (b : Bool) → is_colon x ≡ b → AreParts ts → AreParts (cond b ([] ∷ ts) (onto_first x ts))
parts_by x ts true t h = (refl, h)
parts_by x ts false t h = more_first x ts t h

are_parts : (t : Text) → AreParts (slice_split is_colon t)
are_parts [] = (refl, tt)
are_parts (x ∷ xs) = parts_by x (slice_split is_colon xs) (is_colon x) refl (are_parts xs)

part_among : (d : Text) (ts : List Text) → AreParts ts → IsAmong d ts → IsPart d
part_among d [] h a = absurd a
part_among d (t ∷ ts) h (inl e) = subst (λ (u : Text). IsPart u) (sym e) h.0
part_among d (t ∷ ts) h (inr a) = part_among d ts h.1 a

-- the directory is the only one of its own text
abbrev pub IsAlone : Text → Type 0
IsAlone d = directories d ≡ d ∷ []

left_alone : (d : Text) (b : Bool) → not (is_empty d) ≡ b → b ≡ true → cond b (d ∷ []) [] ≡ d ∷ []
left_alone d true t e = refl
left_alone d false t e = absurd (false≢true e)

alone_in : (d t : Text) → IsAmong d (directories t) → IsAlone d
alone_in d t a =
    let f = filtered (λ (x : Text). not (is_empty x)) (slice_split is_colon t) d a in
    ap (filter (λ (x : Text). not (is_empty x))) (part_among d (slice_split is_colon t) (are_parts t) f.0)
    ∙ left_alone d (not (is_empty d)) refl f.1

by_name : (d : Text) (elements : List Text) (b : Bool) → IsAmong d (cond b (flat_map directories elements) []) → IsAlone d
by_name d elements true a = let i = of_flat_map directories d elements a in alone_in d i.0 i.2
by_name d elements false a = absurd a

alone_by : (d : Text) (o : Option (Text × List Text)) → IsAmong d (directories_in o) → IsAlone d
alone_by d None a = absurd a
alone_by d (Some o) a = by_name d o.1 (bytes_eq o.0 modulepath) a

-- so is each directory of a site
pub is_alone : (site : Site) (d : Text) → IsDirectory site d → IsAlone d
is_alone site d (first a) = alone_in d (requests.modulepath site.env) a
is_alone site d (added m rs from there records a) = let i = of_flat_map directories_by d rs a in alone_by d (added_elements i.0) i.2

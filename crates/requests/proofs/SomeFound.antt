-- A name means a module, or there is a reason that it means none: what is asked of a tree can be decided, and a set of
-- candidates is finite.
use Rattle.std.proofs.Common.{◌≡◌, ◌⊎◌, inl, inr, Bool, true, false, ◌&&◌, List, [], ◌∷◌, ◌++◌, filter, Option, Some}
use Rattle.std.proofs.Common.{None, Result, Ok, Err, refl, sym, ap, ◌∙◌, subst, ⊎_elim}
use Rattle.std.specs.Prelude.{bytes_eq, codes, if◌then◌else◌}
use Rattle.std.specs.List.{list_any}
use Rattle.std.proofs.lemmas.Bool.{or_cases, or_left, or_right, and_parts, and_from}
use Rattle.std.proofs.lemmas.Slice.Eq.{bytes_eq-Decides}
use Rattle.modulename.specs.ModuleName.{Text, is_module_name}
use Rattle.modulename.specs.Versions.{IsGreatest, IsIn, greater}
use Rattle.modulename.proofs.GreatestLemmas.{greatest_of_more, greatest_of_one}
use Rattle.filetree.specs.Agreement.{Files, Listings}
use Rattle.filetree.specs.Modulefiles.{FileContent, absent, no_cookie, not_utf8, script, modulefile, is_module}
use Rattle.filetree.specs.Modulefiles.{directories, path_of}
use Rattle.filetree.specs.Relations.{Is, After, Then, If, Where}
use Rattle.search.specs.Reasons.{bad_name, not_found, bad_default}
use Rattle.search.specs.Single.{is_single}
use Rattle.search.specs.DefaultFiles.{DefaultFileResult, VersionIn, version_named, NamesIn, Names, by_command}
use Rattle.search.specs.DefaultFiles.{by_variable}
use Rattle.search.specs.Found.{IsCandidate, HasCandidates, IsSomeCandidate, default_file, NamedDefault, Greatest}
use Rattle.search.specs.Found.{NamedOrGreatest, DefaultVersion, found_module, FoundAlong, Found}
use Rattle.requests.specs.Refusals.{refused_as, RefusedAs}

-- it has an outcome
abbrev pub IsSome : {A R : Type 0} → (Result A R → Type 0) → Type 0
IsSome {A} {R} Comes = (o : Result A R) × Comes o

pub some_is : {A R : Type 0} (r : Result A R) → IsSome (Is r)
some_is r = (r, refl)

some_after : {A B R : Type 0} {Rest : A → Result B R → Type 0} → ((x : A) → IsSome (Rest x)) → (first : Result A R) → IsSome (After Rest first)
some_after more (Ok x) = more x
some_after more (Err r) = (Err r, refl)

pub some_then : {A B R : Type 0} {First : Result A R → Type 0} {Rest : A → Result B R → Type 0} → IsSome First → ((x : A) → IsSome (Rest x)) → IsSome (Then First Rest)
some_then {Rest = Rest} first more = let o = some_after {Rest = Rest} more first.0 in (o.0, (first.0, first.1, o.1))

pub some_if : {A R : Type 0} {Yes No : Result A R → Type 0} (test : Bool) → IsSome Yes → IsSome No → IsSome (If test Yes No)
some_if true one other = one
some_if false one other = other

pub some_refused_as : {A R S : Type 0} {f : R → S} {First : Result A R → Type 0} → IsSome First → IsSome (RefusedAs f First)
some_refused_as {f = f} first = (refused_as f first.0, (first.0, first.1, refl))

abbrev Decided : Type 0 → Type 0
Decided Fact = Fact ⊎ (Fact → ⊥)

some_where : {A R : Type 0} {Fact : Type 0} {Yes No : Result A R → Type 0} → Decided Fact → (Fact → IsSome Yes) → IsSome No → IsSome (Where Fact Yes No)
some_where (inl fact) one other = let o = one fact in (o.0, inl (fact, o.1))
some_where (inr never) one other = (other.0, inr (never, other.1))

decided : (b : Bool) → Decided (b ≡ true)
decided true = inl refl
decided false = inr (λ h. cc)

-- ---- candidates

in_step : (t : Bool) (p : Text → Bool) (v x : Text) (ys xs : List Text) → p x ≡ t → IsIn (if t then x ∷ ys else ys) v
    → (IsIn ys v → IsIn xs v × (p v ≡ true)) → IsIn (x ∷ xs) v × (p v ≡ true)
in_step true p v x ys xs e h more =
    ⊎_elim (λ q. (or_left (bytes_eq v x) (list_any (bytes_eq v) xs) q, ap p ((bytes_eq-Decides v x).0 q) ∙ e))
    (λ r. let m = more r in (or_right (bytes_eq v x) (list_any (bytes_eq v) xs) m.0, m.1)) (or_cases (bytes_eq v x) (list_any (bytes_eq v) ys) h)
in_step false p v x ys xs e h more = let m = more h in (or_right (bytes_eq v x) (list_any (bytes_eq v) xs) m.0, m.1)

in_filter : (p : Text → Bool) (v : Text) (xs : List Text) → IsIn (filter p xs) v → IsIn xs v × (p v ≡ true)
in_filter p v [] h = absurd (let f : false ≡ true = h in cc)
in_filter p v (x ∷ xs) h = in_step (p x) p v x (filter p xs) xs refl h (in_filter p v xs)

filter_step : (t : Bool) (p : Text → Bool) (v x : Text) (ys xs : List Text) → p x ≡ t → IsIn (x ∷ xs) v → p v ≡ true
    → (IsIn xs v → IsIn ys v) → IsIn (if t then x ∷ ys else ys) v
filter_step true p v x ys xs e h k more =
    ⊎_elim (λ q. or_left (bytes_eq v x) (list_any (bytes_eq v) ys) q) (λ r. or_right (bytes_eq v x) (list_any (bytes_eq v) ys) (more r)) (or_cases (bytes_eq v x) (list_any (bytes_eq v) xs) h)
filter_step false p v x ys xs e h k more =
    ⊎_elim (λ q. absurd (let f : true ≡ false = sym k ∙ ap p ((bytes_eq-Decides v x).0 q) ∙ e in cc)) more (or_cases (bytes_eq v x) (list_any (bytes_eq v) xs) h)

filter_in : (p : Text → Bool) (v : Text) (xs : List Text) → IsIn xs v → p v ≡ true → IsIn (filter p xs) v
filter_in p v [] h k = absurd (let f : false ≡ true = h in cc)
filter_in p v (x ∷ xs) h k = filter_step (p x) p v x (filter p xs) xs refl h k (λ r. filter_in p v xs r k)

abbrev is_version : Files → Text → Text → Text → Bool
is_version files dir name v = is_single v && (is_module_name (path_of name v) && is_module (modulefile (files (path_of dir (path_of name v)))))

abbrev among : (Text → Bool) → Option (List Text) → List Text
among p None = []
among p (Some entries) = filter p entries

abbrev candidates : Files → Listings → Text → Text → List Text
candidates files listings dir name = among (is_version files dir name) (listings (path_of dir name))

as_candidate : (files : Files) (listings : Listings) (dir name v : Text) (o : Option (List Text))
    → listings (path_of dir name) ≡ o → IsIn (among (is_version files dir name) o) v
    → IsCandidate files listings dir name v
as_candidate files listings dir name v None e h = absurd (let f : false ≡ true = h in cc)
as_candidate files listings dir name v (Some entries) e h =
    let p = in_filter (is_version files dir name) v entries h in
    let q = and_parts (is_single v) (is_module_name (path_of name v) && is_module (modulefile (files (path_of dir (path_of name v))))) p.1 in
    let r = and_parts (is_module_name (path_of name v)) (is_module (modulefile (files (path_of dir (path_of name v))))) q.1 in
    record { entry = (entries, e, p.0); single = q.0; spelled = r.0; file = r.1 }

in_candidates : (files : Files) (listings : Listings) (dir name v : Text) → IsCandidate files listings dir name v → IsIn (candidates files listings dir name) v
in_candidates files listings dir name v c =
    let (entries, e, h) = c.entry in
    subst (λ (o : Option (List Text)). IsIn (among (is_version files dir name) o) v) (sym e) (filter_in (is_version files dir name) v entries h
    (and_from (is_single v) (is_module_name (path_of name v) && is_module (modulefile (files (path_of dir (path_of name v))))) c.single
    (and_from (is_module_name (path_of name v)) (is_module (modulefile (files (path_of dir (path_of name v))))) c.spelled c.file)))

candidate_in : (files : Files) (listings : Listings) (dir name v : Text) → IsIn (candidates files listings dir name) v → IsCandidate files listings dir name v
candidate_in files listings dir name v h = as_candidate files listings dir name v (listings (path_of dir name)) refl h

decided_candidate : (files : Files) (listings : Listings) (dir name v : Text) → Decided (IsCandidate files listings dir name v)
decided_candidate files listings dir name v =
    ⊎_elim (λ h. inl (candidate_in files listings dir name v h)) (λ n. inr (λ c. n (in_candidates files listings dir name v c))) (decided (list_any (bytes_eq v) (candidates files listings dir name)))

decided_one_of : (files : Files) (listings : Listings) (dir name : Text) (o : Option Text) → Decided (IsSomeCandidate (IsCandidate files listings dir name) o)
decided_one_of files listings dir name None = inr (λ h. h)
decided_one_of files listings dir name (Some v) = decided_candidate files listings dir name v

some_member : (files : Files) (listings : Listings) (dir name : Text) (vs : List Text) → candidates files listings dir name ≡ vs → Decided (HasCandidates files listings dir name)
some_member files listings dir name [] e = inr (λ h. let f : false ≡ true = subst (λ vs. IsIn vs h.0) e (in_candidates files listings dir name h.0 h.1) in cc)
some_member files listings dir name (v ∷ vs) e =
    inl (v, candidate_in files listings dir name v (subst (λ ws. IsIn ws v) (sym e) (or_left (bytes_eq v v) (list_any (bytes_eq v) vs) ((bytes_eq-Decides v v).1 refl))))

decided_some : (files : Files) (listings : Listings) (dir name : Text) → Decided (HasCandidates files listings dir name)
decided_some files listings dir name = some_member files listings dir name (candidates files listings dir name) refl

-- the greatest of a list
greatest_from : (front rest : List Text) (b : Text) → IsGreatest (IsIn front) b → (v : Text) × IsGreatest (IsIn (front ++ rest)) v
greatest_from front [] b g = (b, subst (λ vs. IsGreatest (IsIn vs) b) (append_nil front) g)
  where
    append_nil : (vs : List Text) → vs ≡ vs ++ []
    append_nil [] = refl
    append_nil (v ∷ vs) = ap (λ ws. v ∷ ws) (append_nil vs)
greatest_from front (v ∷ rest) b g =
    let r = greatest_from (front ++ v ∷ []) rest (greater b v) (greatest_of_more front b v g) in
    (r.0, subst (λ vs. IsGreatest (IsIn vs) r.0) (joined front v rest) r.1)
  where
    joined : (vs : List Text) (v : Text) (ws : List Text) → (vs ++ v ∷ []) ++ ws ≡ vs ++ v ∷ ws
    joined [] v ws = refl
    joined (x ∷ vs) v ws = ap (λ zs. x ∷ zs) (joined vs v ws)

greatest_of : (vs : List Text) (v : Text) → IsIn vs v → (w : Text) × IsGreatest (IsIn vs) w
greatest_of [] v h = absurd (let f : false ≡ true = h in cc)
greatest_of (x ∷ vs) v h = greatest_from (x ∷ []) vs x (greatest_of_one x)

some_greatest : (files : Files) (listings : Listings) (dir name : Text) → HasCandidates files listings dir name → IsSome (Greatest files listings dir name)
some_greatest files listings dir name (v, c) =
    let g = greatest_of (candidates files listings dir name) v (in_candidates files listings dir name v c) in (
      Ok g.0,
      (
        g.0,
        record {
          member = candidate_in files listings dir name g.0 g.1.member;
          last = λ w d. g.1.last w (in_candidates files listings dir name w d);
        },
        refl,
      ),
    )

-- ---- the search

abbrev Leaving : (Text → Text → Option DefaultFileResult → Type 0) → Type 0
Leaving results = (path text : Text) → (o : Option DefaultFileResult) × results path text o

some_names_in : (results : Text → Text → Option DefaultFileResult → Type 0) → Leaving results → (says : VersionIn) (path : Text) (held : FileContent) → IsSome (NamesIn results says path held)
some_names_in results law says path absent = (Ok None, refl)
some_names_in results law says path no_cookie = (Ok None, refl)
some_names_in results law says path not_utf8 = (Err (bad_default path), refl)
some_names_in results law says path (script text) = let l = law path text in (version_named says path l.0, (l.0, l.1, refl))

some_names : (results : Text → Text → Option DefaultFileResult → Type 0) → Leaving results → (files : Files) (says : VersionIn) (path : Text) → IsSome (Names results files says path)
some_names results law files says path = some_names_in results law says path (modulefile (files path))

some_named : (results : Text → Text → Option DefaultFileResult → Type 0) → Leaving results
    → (files : Files) (listings : Listings) (dir name : Text) → IsSome (NamedDefault results files listings dir name)
some_named results law files listings dir name =
    some_then (some_names results law files (by_command name) (default_file dir name (codes ".modulerc"))) (λ first.
    some_where (decided_one_of files listings dir name first) (λ h. some_is (Ok first)) (
    some_then (some_names results law files by_variable (default_file dir name (codes ".version"))) (λ second.
    some_where (decided_one_of files listings dir name second) (λ h. some_is (Ok second)) (some_is (Ok None)))))

some_or_greatest : (files : Files) (listings : Listings) (dir name : Text) → HasCandidates files listings dir name → (named : Option Text) → IsSome (NamedOrGreatest files listings dir name named)
some_or_greatest files listings dir name h (Some v) = some_is (Ok v)
some_or_greatest files listings dir name h None = some_greatest files listings dir name h

some_default : (results : Text → Text → Option DefaultFileResult → Type 0) → Leaving results
    → (files : Files) (listings : Listings) (dir name : Text) → HasCandidates files listings dir name
    → IsSome (DefaultVersion results files listings dir name)
some_default results law files listings dir name h =
    some_then {First = NamedDefault results files listings dir name} {Rest = NamedOrGreatest files listings dir name}
    (some_named results law files listings dir name) (some_or_greatest files listings dir name h)

some_along : (results : Text → Text → Option DefaultFileResult → Type 0) → Leaving results
    → (files : Files) (listings : Listings) (name : Text) (dirs : List Text)
    → IsSome (FoundAlong results files listings name dirs)
some_along results law files listings name [] = some_is (Err (not_found name))
some_along results law files listings name (dir ∷ dirs) =
    some_where (decided (is_module (modulefile (files (path_of dir name))))) (λ h. some_is (found_module name (path_of dir name) (modulefile (files (path_of dir name))))) (
    some_where (decided_some files listings dir name) (λ h.
    some_then (some_default results law files listings dir name h) (λ v. some_is (found_module (path_of name v) (path_of dir (path_of name v)) (modulefile (files (path_of dir (path_of name v))))))) (
    some_along results law files listings name dirs))

pub some_found : (results : Text → Text → Option DefaultFileResult → Type 0) → Leaving results
    → (files : Files) (listings : Listings) (modulepath name : Text)
    → IsSome (Found results files listings modulepath name)
some_found results law files listings modulepath name =
    some_if (is_module_name name) (some_along results law files listings name (directories modulepath)) (some_is (Err (bad_name name)))

-- The steps of the search.
use Rattle.std.proofs.Common.{◌≡◌, true, false, List, [], ◌∷◌, length, Option, Some, None, Result, Ok, Err, inl, inr}
use Rattle.std.proofs.Common.{refl, sym, ap, ◌∙◌, subst, arith}
use Rattle.std.specs.Prelude.{◌==◌}
use Rattle.std.proofs.lemmas.Bool.Decides.{nat_tests}
use Rattle.modulename.specs.ModuleName.{Text}
use Rattle.filetree.specs.Agreement.{Files, Listings}
use Rattle.filetree.specs.Modulefiles.{FileContent, absent, no_cookie, not_utf8, script, modulefile, is_module}
use Rattle.filetree.specs.Modulefiles.{is_empty, path_of}
use Rattle.search.specs.declared.find_fault.FindFault.{FindFault}
use Rattle.search.specs.declared.find_fault.FindFault.TheVariants as faults
use Rattle.filetree.specs.Relations.{Then, Where}
use Rattle.search.specs.Reasons.{FindReason}
use Rattle.search.specs.DefaultVersions.{DefaultFileResult}
use Rattle.search.specs.Found.{FoundModule, NamedDefault, DefaultVersion, ModuleAt, FoundAlong, found_module}
use Rattle.search.specs.Candidates.{IsCandidate, HasCandidates}
use Rattle.search.specs.Answers.{FindAnswersOverTree}
use Rattle.search.specs.Steps.{module_in, module_at, DefaultIn, OfDefault, FoundBelow}
use Rattle.search.specs.Versions.{IsGreatestOf}
use Rattle.search.proofs.NamedLemmas.{named_is_candidate, same_value}

-- a fault of one step is a fault of the whole
pub over_tree_fault : {X Y V W : Type 0} (agrees : Files → Listings → Type 0) (failed before : Type 0) (view : X → Y) (view' : V → W)
    (Outcomes : Files → Listings → Result Y FindReason → Type 0) (Outcomes' : Files → Listings → Result W FindReason → Type 0) (e : FindFault)
    → (failed → before) → ((files : Files) (listings : Listings) (r : FindReason) → agrees files listings → Outcomes files listings (Err r) → Outcomes' files listings (Err r))
    → FindAnswersOverTree agrees failed view (Err e) Outcomes → FindAnswersOverTree agrees before view' (Err e) Outcomes'
over_tree_fault agrees failed before view view' Outcomes Outcomes' faults.OutOfMemory later then h = tt
over_tree_fault agrees failed before view view' Outcomes Outcomes' faults.Device later then h = later h
over_tree_fault agrees failed before view view' Outcomes Outcomes' (faults.NotFound n) later then h = λ files listings a. then files listings _ a (h files listings a)
over_tree_fault agrees failed before view view' Outcomes Outcomes' (faults.BadName n) later then h = λ files listings a. then files listings _ a (h files listings a)
over_tree_fault agrees failed before view view' Outcomes Outcomes' (faults.BadDefaultFile p) later then h = λ files listings a. then files listings _ a (h files listings a)
over_tree_fault agrees failed before view view' Outcomes Outcomes' (faults.NotUtf8 p) later then h = λ files listings a. then files listings _ a (h files listings a)

-- an outcome of the step is one of the whole
pub over_tree_weaker : {X Y : Type 0} (agrees : Files → Listings → Type 0) (failed before : Type 0) (view : X → Y) (result : Result X FindFault)
    (Outcomes Outcomes' : Files → Listings → Result Y FindReason → Type 0) → (failed → before)
    → ((files : Files) (listings : Listings) (o : Result Y FindReason) → agrees files listings → Outcomes files listings o → Outcomes' files listings o)
    → FindAnswersOverTree agrees failed view result Outcomes → FindAnswersOverTree agrees before view result Outcomes'
over_tree_weaker agrees failed before view (Ok x) Outcomes Outcomes' later then h = λ files listings a. then files listings (Ok (view x)) a (h files listings a)
over_tree_weaker agrees failed before view (Err e) Outcomes Outcomes' later then h = over_tree_fault agrees failed
    before view view Outcomes Outcomes' e later (λ files listings r. then files listings (Err r)) h

-- the default candidate of a folder
module _ (results : Text → Text → Option DefaultFileResult → Type 0) (files : Files) (listings : Listings) (dir name : Text) where
  pub default_named : (v : Text) → NamedDefault results files listings dir name (Ok (Some v)) → DefaultIn results files listings dir name (Ok (Some v))
  default_named v h = inl ((v, named_is_candidate results files listings dir name v h), (Ok v, (Ok (Some v), h, refl), refl))

  pub default_greatest : (g : Option Text) → NamedDefault results files listings dir name (Ok None) → IsGreatestOf files listings dir name g → DefaultIn results files listings dir name (Ok g)
  default_greatest None h none = inr (none, refl)
  default_greatest (Some v) h greatest = inl ((v, greatest.member), (Ok v, (Ok None, h, (v, greatest, refl)), refl))

  pub default_bad : (v : Text) (r : FindReason) → NamedDefault results files listings dir name (Err r)
      → IsGreatestOf files listings dir name (Some v) → DefaultIn results files listings dir name (Err r)
  default_bad v r h greatest = inl ((v, greatest.member), (Err r, (Err r, h, refl), refl))

  pub default_none : IsGreatestOf files listings dir name None → DefaultIn results files listings dir name (Ok None)
  default_none none = inr (none, refl)

  pub default_absent : (path : Text) → path ≡ path_of dir name → listings path ≡ None → DefaultIn results files listings dir name (Ok None)
  default_absent path at nothing = inr (no, refl)
    where
      no : HasCandidates files listings dir name → ⊥
      no (v, c) = let e : None ≡ Some c.entry.0 = sym nothing ∙ ap listings at ∙ c.entry.1 in absurd (cc)

  -- the directory gives the module of this name itself
  pub below_first : (o : Result (Option FoundModule) FindReason) (held : FileContent)
      → modulefile (files (path_of dir name)) ≡ held → o ≡ module_at files dir name → (o ≡ Ok None → ⊥)
      → FoundBelow results files listings dir name o
  below_first o absent e h some = absurd (some (h ∙ ap (module_in name (path_of dir name)) e))
  below_first o no_cookie e h some = absurd (some (h ∙ ap (module_in name (path_of dir name)) e))
  below_first o not_utf8 e h some = inl (ap is_module e, h)
  below_first o (script text) e h some = inl (ap is_module e, h)

  -- or else the default candidate
  pub below_default : (held : FileContent) → modulefile (files (path_of dir name)) ≡ held → Ok None ≡ module_at files dir name → (v : Option Text) (o : Result (Option FoundModule) FindReason)
      → DefaultIn results files listings dir name (Ok v) → OfDefault files dir name v o → FoundBelow results files listings dir name o
  below_default absent e h v o d of = inr (λ k. let q : false ≡ true = sym (ap is_module e) ∙ k in absurd (cc), (Ok v, d, of))
  below_default no_cookie e h v o d of = inr (λ k. let q : false ≡ true = sym (ap is_module e) ∙ k in absurd (cc), (Ok v, d, of))
  below_default not_utf8 e h v o d of = absurd (let q = h ∙ ap (module_in name (path_of dir name)) e in cc)
  below_default (script text) e h v o d of = absurd (let q = h ∙ ap (module_in name (path_of dir name)) e in cc)

  pub below_fault : (held : FileContent) → modulefile (files (path_of dir name)) ≡ held → Ok None ≡ module_at files dir name → (r : FindReason)
      → DefaultIn results files listings dir name (Err r) → FoundBelow results files listings dir name (Err r)
  below_fault absent e h r d = inr (λ k. let q : false ≡ true = sym (ap is_module e) ∙ k in absurd (cc), (Err r, d, refl))
  below_fault no_cookie e h r d = inr (λ k. let q : false ≡ true = sym (ap is_module e) ∙ k in absurd (cc), (Err r, d, refl))
  below_fault not_utf8 e h r d = absurd (let q = h ∙ ap (module_in name (path_of dir name)) e in cc)
  below_fault (script text) e h r d = absurd (let q = h ∙ ap (module_in name (path_of dir name)) e in cc)

-- how the search continues after one directory
abbrev pub Continues : (Text → Text → Option DefaultFileResult → Type 0) → Files → Listings → Text → List Text → Result (Option FoundModule) FindReason → Result FoundModule FindReason → Type 0
Continues results files listings name dirs (Ok None) o = FoundAlong results files listings name dirs o
Continues results files listings name dirs (Ok (Some m)) o = o ≡ Ok m
Continues results files listings name dirs (Err r) o = o ≡ Err r

module _ (results : Text → Text → Option DefaultFileResult → Type 0) (files : Files) (listings : Listings) (dir name : Text) where
  pub default_is_candidate : (v : Text) → DefaultVersion results files listings dir name (Ok v) → IsCandidate files listings dir name v
  default_is_candidate v (Ok (Some w), h, e) = subst (IsCandidate files listings dir name) (sym (same_value v w (Ok v) (Ok w) refl refl e)) (named_is_candidate results files listings dir name w h)
  default_is_candidate v (Ok None, h, (w, greatest, e)) = subst (IsCandidate files listings dir name) (sym (same_value v w (Ok v) (Ok w) refl refl e)) greatest.member
  default_is_candidate v (Err r, h, e) = absurd (cc)

module _ (results : Text → Text → Option DefaultFileResult → Type 0) (files : Files) (listings : Listings) (dir name : Text) (dirs : List Text) where
  given_read : (full path : Text) (held : FileContent) → is_module held ≡ true → (given : Result (Option FoundModule) FindReason) (o : Result FoundModule FindReason)
      → given ≡ module_in full path held → Continues results files listings name dirs given o → o ≡ found_module full path held
  given_read full path absent m given o e k = absurd (cc)
  given_read full path no_cookie m given o e k = absurd (cc)
  given_read full path not_utf8 m given o e k = subst (λ x. Continues results files listings name dirs x o) e k
  given_read full path (script text) m given o e k = subst (λ x. Continues results files listings name dirs x o) e k

  along_default : (v : Option Text) (given : Result (Option FoundModule) FindReason) (o : Result FoundModule FindReason)
      → DefaultIn results files listings dir name (Ok v) → OfDefault files dir name v given
      → Continues results files listings name dirs given o
      → Where (HasCandidates files listings dir name) (Then (DefaultVersion results files listings dir name) (λ w. ModuleAt files dir (path_of name w))) (FoundAlong results files listings name dirs) o
  along_default v given o (inl (c, (Ok w, default, e))) of k =
      let q : v ≡ Some w = same_value v (Some w) (Ok v) (Ok (Some w)) refl refl e in
      let at : given ≡ module_at files dir (path_of name w) = subst (λ x. OfDefault files dir name x given) q of in
      let path = path_of dir (path_of name w) in
      inl (c, (Ok w, default, given_read (path_of name w) path (modulefile (files path)) (default_is_candidate results files listings dir name w default).file given o at k))
  along_default v given o (inl (c, (Err r, default, e))) of k = absurd (cc)
  along_default v given o (inr (none, e)) of k =
      let q : v ≡ None = same_value v None (Ok v) (Ok None) refl refl e in
      let at : given ≡ Ok None = subst (λ x. OfDefault files dir name x given) q of in
      inr (none, subst (λ x. Continues results files listings name dirs x o) at k)

  along_fault : (r : FindReason) (o : Result FoundModule FindReason) → DefaultIn results files listings dir name (Err r) → o ≡ Err r
      → Where (HasCandidates files listings dir name) (Then (DefaultVersion results files listings dir name) (λ w. ModuleAt files dir (path_of name w))) (FoundAlong results files listings name dirs) o
  along_fault r o (inl (c, (Ok w, default, e))) k = absurd (cc)
  along_fault r o (inl (c, (Err s, default, e))) k = inl (c, (Err s, default, (let q : r ≡ s = cc in k ∙ ap Err q)))
  along_fault r o (inr (none, e)) k = absurd (cc)

  pub along : (given : Result (Option FoundModule) FindReason) (o : Result FoundModule FindReason)
      → FoundBelow results files listings dir name given → Continues results files listings name dirs given o
      → FoundAlong results files listings name (dir ∷ dirs) o
  along given o (inl (at, e)) k = inl (at, given_read name (path_of dir name) (modulefile (files (path_of dir name))) at given o e k)
  along given o (inr (other, (Ok v, d, of))) k = inr (other, along_default v given o d of k)
  along given o (inr (other, (Err r, d, e))) k = inr (other, along_fault r o d (subst (λ x. Continues results files listings name dirs x o) e k))

-- the first of the directories from one on
pub along_rest : (results : Text → Text → Option DefaultFileResult → Type 0) (files : Files) (listings : Listings) (name first : Text) (after rest : List Text) → rest ≡ first ∷ after
    → (given : Result (Option FoundModule) FindReason) (o : Result FoundModule FindReason) → FoundBelow results files listings first name given
    → Continues results files listings name after given o → FoundAlong results files listings name rest o
along_rest results files listings name first after rest split given o below k =
    subst (λ dirs. FoundAlong results files listings name dirs o) (sym split) (along results files listings first name after given o below k)

pub is_empty-length : (dir : Text) → (length dir == 0) ≡ is_empty dir
is_empty-length [] = refl
is_empty-length (b ∷ bs) = grind (arith, nat_tests)

-- Bad default files of the folders in which modules are, module after module.
use Rattle.std.proofs.Common.{◌≡◌, ◌⊎◌, inl, inr, ℕ, ◌+◌, ◌<◌, ◌≤◌, true, List, [], ◌∷◌, ◌++◌, Option, Some, None, map}
use Rattle.std.proofs.Common.{take, take_all, length, get_or, option_to_list, refl, sym, ap, ◌∙◌, subst}
use Rattle.std.proofs.Common.{append-nil, append_assoc}
use Rattle.std.specs.Prelude.{bytes_eq, cond, ◌↔◌}
use Rattle.std.proofs.lemmas.List.{map-append}
use Rattle.envvars.specs.Texts.{Text, has}
use Rattle.envvars.proofs.TextLemmas.{bytes_eq-same}
use Rattle.tclrules.specs.declared.limits.Limits.{Limits}
use Rattle.filetree.specs.Agreement.{Files, Listings}
use Rattle.audit_certificate.specs.RecordUses.{IsAmong}
use Rattle.audit_certificate.proofs.UsedLemmas.{by_cases, among_left, among_right}
use Rattle.audit_certificate.proofs.Exact.{some_any}
use Rattle.audit_laws.specs.site.Sites.{SiteModule}
use Rattle.audit_laws.specs.site.DirectorySets.{with_directories}
use Rattle.audit_laws.proofs.site.DirectorySetLemmas.{with-append}
use Rattle.audit_site.specs.declared.walk.Evaluation.{Evaluation}
use Rattle.audit_site.specs.DeterministicRuns.{evaluated_file}
use Rattle.audit_site.specs.Folders.{FolderText, HoldsModule, HoldsOneOf, IsBadIn, IsBadDefaultOf}
use Rattle.audit_site.specs.Folders.{AreBadDefaultsOf, AreBadDefaultFiles, AddsNewAnswer, AddsBadDefault, AddsFolder}
use Rattle.audit_site.proofs.AmongLemmas.{among_map, taken}
use Rattle.audit_site.proofs.DirectoryLemmas.{once, comes}
use Rattle.audit_site.proofs.FolderLemmas.{holds_one, some_folder, no_folder}

-- ---- the folder of one module

-- the folder that the code finds of the module, or none
abbrev pub IsFolderOf : SiteModule → Option FolderText → Type 0
IsFolderOf m found = (folder : FolderText) → (found ≡ Some folder) ↔ HoldsModule folder m.name m.path

-- the module is in none
pub none_added : (ks : List FolderText) (m : SiteModule) → IsFolderOf m None → AddsFolder ks m ks
none_added ks m w folder = (λ a. inl a, λ a. by_cases a (λ b. b) (λ h. absurd (no_folder folder ((w folder).1 h))))

no_path : (path : Text) → (let o : Option Text = None in o) ≡ Some path → ⊥
no_path path e = cc

pub none_bad : (limits : Limits) (files : Files) (listings : Listings) (folders : List FolderText) (m : SiteModule) (paths : List Text) → IsFolderOf m None
    → AddsBadDefault limits files listings folders m paths paths
none_bad limits files listings folders m paths w =
    inr (None, (λ path. (λ e. absurd (no_path path e), λ k. absurd (no_folder k.0 ((w k.0).1 k.1)))), refl)

-- it is in this one
pub one_added : (old new : List FolderText) (f : FolderText) (m : SiteModule) → IsFolderOf m (Some f)
    → ((folder : FolderText) → IsAmong folder new ↔ (IsAmong folder old ⊎ (folder ≡ f))) → AddsFolder old m new
one_added old new f m w h folder = (
  (λ a. by_cases ((h folder).0 a) (λ b. inl b) (λ e. inr ((w folder).0 (ap (λ (t : FolderText). Some t) (sym e))))),
  (λ a. (h folder).1 (by_cases a (λ b. inl b) (λ k. inr (sym (some_folder f folder ((w folder).1 k)))))),
)

pub one_bad : (limits : Limits) (files : Files) (listings : Listings) (folders : List FolderText) (f : FolderText) (m : SiteModule) (old new : List Text)
    → IsFolderOf m (Some f) → AddsNewAnswer limits files listings folders f old new → AddsBadDefault limits files listings folders m old new
one_bad limits files listings folders f m old new w (inl (a, e)) = inl (f, a, (w f).0 refl, e)
one_bad limits files listings folders f m old new w (inr (answer, is, e)) =
    inr (
      answer,
      (λ path. (
        (λ s. (f, (w f).0 refl, (is path).0 s)),
        (λ k. (is path).1 (subst (λ (g : FolderText). IsBadIn limits files listings g path) (sym (some_folder f k.0 ((w k.0).1 k.1))) k.2)),
      )),
      e,
    )

-- ---- module after module

module _ (limits : Limits) (files : Files) (listings : Listings) where
  of_more : (ms : List SiteModule) (ps : List Text) (m : SiteModule) (answer : Option Text) → AreBadDefaultsOf limits files listings ms ps → IsBadDefaultOf limits files listings m answer
      → AreBadDefaultsOf limits files listings (ms ++ m ∷ []) (ps ++ option_to_list answer)
  of_more [] ps m answer h k = (answer, [], k, refl, ap (λ (l : List Text). l ++ option_to_list answer) h ∙ sym (append-nil (option_to_list answer)))
  of_more (n ∷ ms) ps m answer (own, rest, is, more, e) k =
      (own, rest ++ option_to_list answer, is, of_more ms rest m answer more k, ap (λ (l : List Text). l ++ option_to_list answer) e ∙ append_assoc (option_to_list own) rest (option_to_list answer))

  -- the answer of a module before
  record Answered (n : SiteModule) (ps : List Text) : Type 0 where
    answer : Option Text
    right : IsBadDefaultOf limits files listings n answer
    there : (path : Text) → IsAmong path (option_to_list answer) → IsAmong path ps

  answered : (ms : List SiteModule) (ps : List Text) (n : SiteModule) → AreBadDefaultsOf limits files listings ms ps → IsAmong n ms → Answered n ps
  answered [] ps n h a = absurd a
  answered (m ∷ ms) ps n (own, rest, is, more, e) (inl same) =
      record {
        answer = own;
        right = subst (λ (k : SiteModule). IsBadDefaultOf limits files listings k own) (sym same) is;
        there = λ path b. subst (IsAmong path) (sym e) (among_left path (option_to_list own) rest b);
      }
  answered (m ∷ ms) ps n (own, rest, is, more, e) (inr a) =
      let i = answered ms rest n more a in
      record { answer = i.answer; right = i.right; there = λ path b. subst (IsAmong path) (sym e) (among_right path (option_to_list own) rest (i.there path b)) }

  one_folder : (n : SiteModule) (f g : FolderText) → HoldsModule f n.name n.path → HoldsModule g n.name n.path → f ≡ g
  one_folder n f g h k = holds_one n.name n.path f.0 f.1 h.0 h.1 g k

  -- modules of one folder have one answer
  alike : (n m : SiteModule) (f : FolderText) (answer : Option Text) → HoldsModule f n.name n.path → HoldsModule f m.name m.path → IsBadDefaultOf limits files listings n answer
      → IsBadDefaultOf limits files listings m answer
  alike n m f answer h k is path = (
    (λ e. let b = (is path).0 e in (f, k, subst (λ (g : FolderText). IsBadIn limits files listings g path) (sym (one_folder n f b.0 h b.1)) b.2)),
    (λ b. (is path).1 (f, h, subst (λ (g : FolderText). IsBadIn limits files listings g path) (sym (one_folder m f b.0 k b.1)) b.2)),
  )

  -- what is there already adds nothing
  kept : (ps : List Text) (answer : Option Text) → ((path : Text) → IsAmong path (option_to_list answer) → IsAmong path ps) → with_directories [] (ps ++ option_to_list answer) ≡ with_directories [] ps
  kept ps None h = ap (with_directories []) (append-nil ps)
  kept ps (Some path) h =
      let ks = with_directories [] ps in
      let there : has path ks ≡ true = some_any (bytes_eq path) ks path (comes path [] ps (h path (inl refl))) (bytes_eq-same path) in
      with-append [] ps (path ∷ []) ∙ ap (λ b. cond b ks (ks ++ path ∷ [])) there

  -- So far these are the bad default files, each once.
  pub record AreBadSoFar (ms : List SiteModule) (keys : List Text) : Type 0 where
    pub paths : List Text
    pub of_each : AreBadDefaultsOf limits files listings ms paths
    pub once_each : keys ≡ with_directories [] paths

  pub none_so_far : (keys : List Text) → keys ≡ [] → AreBadSoFar [] keys
  none_so_far keys e = record { paths = []; of_each = refl; once_each = e }

  one_more : (es : List Evaluation) (m : SiteModule) (folders : List FolderText) (old new : List Text)
      → ((folder : FolderText) → IsAmong folder folders ↔ HoldsOneOf es folder) → AreBadSoFar (map evaluated_file es) old → AddsBadDefault limits files listings folders m old new
      → AreBadSoFar (map evaluated_file es ++ m ∷ []) new
  one_more es m folders old new held so_far (inl (f, a, h, e)) =
      let one = (held f).0 a in
      let n : SiteModule = evaluated_file one.0 in
      let i = answered (map evaluated_file es) so_far.paths n so_far.of_each (among_map evaluated_file one.0 es one.1) in
      record {
        paths = so_far.paths ++ option_to_list i.answer;
        of_each = of_more (map evaluated_file es) so_far.paths m i.answer so_far.of_each (alike n m f i.answer one.2 h i.right);
        once_each = e ∙ (so_far.once_each ∙ sym (kept so_far.paths i.answer i.there));
      }
  one_more es m folders old new held so_far (inr (answer, is, e)) =
      record {
        paths = so_far.paths ++ option_to_list answer;
        of_each = of_more (map evaluated_file es) so_far.paths m answer so_far.of_each is;
        once_each = e ∙ (ap (λ (l : List Text). with_directories l (option_to_list answer)) so_far.once_each ∙ sym (with-append [] so_far.paths (option_to_list answer)));
      }

  pub bad_more : (es : List Evaluation) (i : ℕ) (m : Evaluation) (folders : List FolderText) (old new : List Text) → i < length es → m ≡ get_or es i m
      → ((folder : FolderText) → IsAmong folder folders ↔ HoldsOneOf (take i es) folder) → AreBadSoFar (map evaluated_file (take i es)) old
      → AddsBadDefault limits files listings folders (evaluated_file m) old new → AreBadSoFar (map evaluated_file (take (i + 1) es)) new
  bad_more es i m folders old new l e held so_far adds =
      subst (λ (ms : List SiteModule). AreBadSoFar ms new) (sym (ap (map evaluated_file) (taken es i m l e) ∙ map-append evaluated_file (take i es) (m ∷ [])))
      (one_more (take i es) (evaluated_file m) folders old new held so_far adds)

  pub bad_whole : (es : List Evaluation) (i : ℕ) (keys found : List Text) → length es ≤ i → AreBadSoFar (map evaluated_file (take i es)) keys → found ≡ keys
      → AreBadDefaultFiles limits files listings (map evaluated_file es) found
  bad_whole es i keys found l so_far e = (
    so_far.paths,
    subst (λ (xs : List Evaluation). AreBadDefaultsOf limits files listings (map evaluated_file xs) so_far.paths) (take_all i es l) so_far.of_each,
    e ∙ (so_far.once_each ∙ once so_far.paths),
  )

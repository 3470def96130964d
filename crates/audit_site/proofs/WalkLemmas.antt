-- A walk over a site, directory by directory.
use Rattle.std.proofs.Common.{◌≡◌, inl, inr, ℕ, ◌+◌, ◌<◌, ◌≤◌, suc, List, [], ◌∷◌}
use Rattle.std.proofs.Common.{◌++◌, map, flat_map, take, slice_get, length, get_or, Some, None, Result, Ok, Err, refl}
use Rattle.std.proofs.Common.{sym, ap, ◌∙◌, subst, append-nil, append_assoc}
use Rattle.std.proofs.lemmas.List.{map-append, take_more}
use Rattle.envvars.specs.Texts.{Text}
use Rattle.envvars.specs.Fields.{without_repeats, are_distinct}
use Rattle.envstate.proofs.loaded_list.LoadedReadable.{distinct_firsts}
use Rattle.filetree.specs.Modulefiles.{path_of}
use Rattle.modulefile.specs.Laws as laws
use Rattle.search.specs.ListingEntries.{name_of}
use Rattle.search.specs.declared.listing_entries.ListingEntry.{ListingEntry}
use Rattle.modulefile.specs.Records.{Record}
use Rattle.requests.specs.Reasons.{RequestReason}
use Rattle.audit_laws.specs.determinism.Contexts.{FileRuns}
use Rattle.modules.specs.declared.refusal.Refusal.{Refusal}
use Rattle.audit_certificate.specs.RecordUses.{IsAmong}
use Rattle.audit_laws.specs.site.Sites.{Site, SiteModule, Evaluated, EvaluatesTo, HasFirstRecords, IsIn, IsDirectory, first}
use Rattle.audit_laws.specs.site.Sites.{added, IsClosed, AreNamesBelow, AreModulesIn, module_below, first_directories}
use Rattle.audit_laws.specs.site.Sites.{added_directories}
use Rattle.audit_laws.specs.site.Laws.{DirectoriesFound}
use Rattle.audit_laws.specs.site.DirectorySets.{with_directories}
use Rattle.audit_site.specs.declared.walk.Evaluation.{Evaluation}
use Rattle.audit_site.specs.Walks.{directories_of, IsWalk, IsOutcome, AreEvaluations, HasTooMany, most_directories}
use Rattle.audit_site.specs.DeterministicRuns.{directories_after}
use Rattle.audit_site.specs.declared.walk.EvaluatedFile.{EvaluatedFile}
use Rattle.audit_laws.proofs.site.Evaluations.{one_outcome}
use Rattle.audit_site.specs.WalkParts.{directories_found, AreEvaluationsOf}
use Rattle.audit_site.specs.WalkParts.{IsEvaluationOf, GoesThrough}
use Rattle.audit_certificate.proofs.UsedLemmas.{by_cases, among_left, among_right, among_either}
use Rattle.audit_laws.proofs.site.DirectorySetLemmas.{with-append}
use Rattle.audit_site.proofs.AmongSites.{at_place, take_next, take_all_gone, in_map, of_map, flat_map_parts, in_flat_map}
use Rattle.audit_site.proofs.AmongSites.{of_flat_map}
use Rattle.audit_site.proofs.DirectoryLemmas.{once, begins, comes, came}

-- ---- lists of evaluations

pub evaluations_parts : (xs ys : List Evaluation) (os ps : List Evaluated) → AreEvaluations xs os → AreEvaluations ys ps → AreEvaluations (xs ++ ys) (os ++ ps)
evaluations_parts [] ys [] ps h k = k
evaluations_parts [] ys (o ∷ os) ps h k = absurd h
evaluations_parts (x ∷ xs) ys [] ps h k = absurd h
evaluations_parts (x ∷ xs) ys (o ∷ os) ps h k = (h.0, evaluations_parts xs ys os ps h.1 k)

-- no modules, no evaluations
pub none_evaluated : (site : Site) → AreEvaluationsOf site [] []
none_evaluated site = record { outcomes = []; modules = refl; evaluated = λ o a. absurd a; evaluations = tt }

both_evaluated : (site : Site) (os ps : List Evaluated) → ((o : Evaluated) → IsAmong o os → EvaluatesTo site o.0 o.1) → ((o : Evaluated) → IsAmong o ps → EvaluatesTo site o.0 o.1)
    → (o : Evaluated) → IsAmong o (os ++ ps) → EvaluatesTo site o.0 o.1
both_evaluated site os ps h k o a = by_cases (among_either o os ps a) (h o) (k o)

-- one module more is evaluated
pub one_evaluated : (site : Site) (ms : List SiteModule) (m : SiteModule) (xs : List Evaluation) (x : Evaluation) → AreEvaluationsOf site ms xs → IsEvaluationOf site m x
    → AreEvaluationsOf site (ms ++ m ∷ []) (xs ++ x ∷ [])
one_evaluated site ms m xs x all (outcome, h, k) =
    let o : Evaluated = (m, outcome) in
    record {
      outcomes = all.outcomes ++ o ∷ [];
      modules = map-append (λ (p : Evaluated). p.0) all.outcomes (o ∷ []) ∙ ap (λ (l : List SiteModule). l ++ m ∷ []) all.modules;
      evaluated = both_evaluated site all.outcomes (o ∷ []) all.evaluated (λ p a. only p o h a);
      evaluations = evaluations_parts xs (x ∷ []) all.outcomes (o ∷ []) all.evaluations (k, tt);
    }
  where
    only : (p o : Evaluated) → EvaluatesTo site o.0 o.1 → IsAmong p (o ∷ []) → EvaluatesTo site p.0 p.1
    only p o h (inl e) = subst (λ (q : Evaluated). EvaluatesTo site q.0 q.1) (sym e) h
    only p o h (inr a) = absurd a

-- and one more of the entries of a listing
pub next_evaluated : (site : Site) (dir : Text) (entries : List ListingEntry) (i : ℕ) (entry : ListingEntry)
    (name : Text) (old new : List Evaluation) (x : Evaluation) → i < length entries → entry ≡ get_or entries i entry
    → name ≡ name_of entry → new ≡ old ++ x ∷ [] → AreEvaluationsOf site (map (module_below dir) (map name_of (take i entries))) old → IsEvaluationOf site (module_below dir name) x
    → AreEvaluationsOf site (map (module_below dir) (map name_of (take (i + 1) entries))) new
next_evaluated site dir entries i entry name old new x l e named pushed before now =
    let view : ListingEntry → SiteModule = λ k. module_below dir (name_of k) in
    let seen : (ks : List ListingEntry) → map (module_below dir) (map name_of ks) ≡ map view ks = twice in
    let more : take (i + 1) entries ≡ take i entries ++ entry ∷ [] = take_more entries i entry l ∙ ap (λ (k : ListingEntry). take i entries ++ k ∷ []) (sym e) in
    let modules : map (module_below dir) (map name_of (take (i + 1) entries)) ≡ map (module_below dir) (map name_of (take i entries)) ++ module_below dir name ∷ [] =
    seen (take (i + 1) entries) ∙ (ap (map view) more ∙ (map-append view (take i entries) (entry ∷ [])
    ∙ ap (λ (ms : List SiteModule). ms ++ view entry ∷ []) (sym (seen (take i entries)))
    ∙ ap (λ (n : Text). map (module_below dir) (map name_of (take i entries)) ++ module_below dir n ∷ [])
    (sym named))) in
    subst (λ (ms : List SiteModule). AreEvaluationsOf site ms new) (sym modules)
    (subst (λ (xs : List Evaluation). AreEvaluationsOf site (map (module_below dir) (map name_of (take i entries)) ++ module_below dir name ∷ []) xs) (sym pushed)
    (one_evaluated site (map (module_below dir) (map name_of (take i entries))) (module_below dir name) old x before now))
  where
    twice : (ks : List ListingEntry) → map (module_below dir) (map name_of ks) ≡ map (λ k. module_below dir (name_of k)) ks
    twice [] = refl
    twice (k ∷ ks) = ap (λ (ms : List SiteModule). module_below dir (name_of k) ∷ ms) (twice ks)

-- ---- the directories that evaluated modules add

abbrev Outcome : Type 0
Outcome = Result (FileRuns RequestReason) RequestReason

pub found_of : (m : SiteModule) (o : Result EvaluatedFile Refusal) (p : Outcome) → IsOutcome o p → directories_after o ≡ directories_of (m, p)
found_of m (Ok file) p (runs, same, of) =
    ap added_directories of.records ∙ sym (ap (λ (q : Outcome). directories_of (m, q)) same)
found_of m (Err refusal) p (reason, because, same) = sym (ap (λ (q : Outcome). directories_of (m, q)) same)

found_same : (xs : List Evaluation) (os : List Evaluated) → AreEvaluations xs os → directories_found xs ≡ flat_map directories_of os
found_same [] [] h = refl
found_same [] (o ∷ os) h = absurd h
found_same (x ∷ xs) [] h = absurd h
found_same (x ∷ xs) (o ∷ os) h =
    ap (λ (l : List Text). l ++ directories_found xs) (found_of o.0 x.outcome o.1 h.0.outcome) ∙ ap (λ (l : List Text). directories_of o ++ l) (found_same xs os h.1)

-- ---- modules in directories in turn

modules_next : (site : Site) (dirs : List Text) (ms : List SiteModule) (dir : Text) (names : List Text) → AreModulesIn site dirs ms → AreNamesBelow site dir names
    → AreModulesIn site (dirs ++ dir ∷ []) (ms ++ map (module_below dir) names)
modules_next site [] ms dir names e below =
    (names, [], below, refl, ap (λ (l : List SiteModule). l ++ map (module_below dir) names) e ∙ sym (append-nil (map (module_below dir) names)))
modules_next site (d ∷ dirs) ms dir names (ns, rest, there, more, e) below =
    let p = modules_next site dirs rest dir names more below in
    (ns, rest ++ map (module_below dir) names, there, p, ap (λ (l : List SiteModule). l ++ map (module_below dir) names) e ∙ append_assoc (map (module_below d) ns) rest (map (module_below dir) names))

placed : (site : Site) (dir : Text) (names : List Text) (m : SiteModule) → AreNamesBelow site dir names → IsIn site dir m → IsAmong m (map (module_below dir) names)
placed site dir names m below there =
    subst (λ (k : SiteModule). IsAmong k (map (module_below dir) names)) (same dir m there.path) (in_map (module_below dir) m.name names ((below.exact m.name).1 there.below))
  where
    same : (dir : Text) (m : SiteModule) → m.path ≡ path_of dir m.name → module_below dir m.name ≡ m
    same dir m e = λ i. record { name = m.name; path = sym e i }

among_modules : (site : Site) (dirs : List Text) (ms : List SiteModule) (dir : Text) (m : SiteModule) → AreModulesIn site dirs ms → IsAmong dir dirs → IsIn site dir m → IsAmong m ms
among_modules site [] ms dir m e a there = absurd a
among_modules site (d ∷ dirs) ms dir m (names, rest, below, more, e) (inl q) there =
    subst (IsAmong m) (sym e) (among_left m (map (module_below d) names) rest (placed site d names m below (subst (λ (t : Text). IsIn site t m) q there)))
among_modules site (d ∷ dirs) ms dir m (names, rest, below, more, e) (inr a) there =
    subst (IsAmong m) (sym e) (among_right m (map (module_below d) names) rest (among_modules site dirs rest dir m more a there))

-- a module of the names below a directory is in it
in_directory : (site : Site) (dir : Text) (names : List Text) (m : SiteModule) → AreNamesBelow site dir names → IsAmong m (map (module_below dir) names) → IsIn site dir m
in_directory site dir names m below a =
    let p = of_map (module_below dir) m names a in
    subst (λ (k : SiteModule). IsIn site dir k) (sym p.2) (record { below = (below.exact p.0).0 p.1; path = refl })

-- ---- what modules add

-- a module that adds a directory has it in its first records
has_records : (site : Site) (d : Text) (m : SiteModule) (o : Outcome) → EvaluatesTo site m o → IsAmong d (directories_of (m, o))
    → (rs : List Record) × HasFirstRecords site m rs × IsAmong d (added_directories rs)
has_records site d m (Err reason) h a = absurd a
has_records site d m (Ok runs) h a = (runs.first.records, record { runs = runs; evaluated = h; records = refl }, a)

-- and it adds the directories of its first records
adds_its : laws.OneOutcome → (site : Site) (d : Text) (m : SiteModule) (o : Outcome) (rs : List Record) → EvaluatesTo site m o → HasFirstRecords site m rs
    → IsAmong d (added_directories rs) → IsAmong d (directories_of (m, o))
adds_its one site d m o rs h p a =
    subst (λ (q : Outcome). IsAmong d (directories_of (m, q))) (one_outcome one site m (Ok p.runs) o p.evaluated h)
    (subst (λ (qs : List Record). IsAmong d (added_directories qs)) p.records a)

-- ---- the walk

-- So far a walk has these directories, of which it has gone through the first, and these evaluations.
pub record IsWalkTo (site : Site) (place : ℕ) (dirs : List Text) (found : List Evaluation) : Type 0 where
  pub outcomes : List Evaluated
  pub order : dirs ≡ with_directories [] (first_directories site ++ flat_map directories_of outcomes)
  pub modules : AreModulesIn site (take place dirs) (map (λ outcome. outcome.0) outcomes)
  pub evaluated : (outcome : Evaluated) → IsAmong outcome outcomes → EvaluatesTo site outcome.0 outcome.1
  pub directories : (dir : Text) → IsAmong dir dirs → IsDirectory site dir
  pub evaluations : AreEvaluations found outcomes

-- at its beginning
pub walk_begins : (site : Site) (dirs : List Text) → dirs ≡ with_directories [] (first_directories site) → IsWalkTo site 0 dirs []
walk_begins site dirs e =
    record {
      outcomes = [];
      order = e ∙ ap (with_directories []) (sym (append-nil (first_directories site)));
      modules = refl;
      evaluated = λ o a. absurd a;
      directories = λ d a. by_cases (came d [] (first_directories site) (subst (IsAmong d) e a)) (λ b. absurd b) (λ b. first b);
      evaluations = tt;
    }

-- the directory at a place is one of the site
pub walks_on : (site : Site) (place : ℕ) (dirs : List Text) (evaluations : List Evaluation) (dir : Text) → IsWalkTo site place dirs evaluations → slice_get dirs place ≡ Some dir → IsDirectory site dir
walks_on site place dirs evaluations dir w at = w.directories dir (at_place dir dirs place at)

module _ (site : Site) (place : ℕ) (dirs last : List Text) (evaluations now : List Evaluation) (dir : Text) (w : IsWalkTo site place dirs evaluations) (at : slice_get dirs place ≡ Some dir)
    (through : GoesThrough site dir dirs last evaluations now) where
  found : last ≡ with_directories dirs (flat_map directories_of through.evaluated.2.outcomes)
  found = through.found ∙ ap (with_directories dirs) (found_same through.below through.evaluated.2.outcomes through.evaluated.2.evaluations)

  ordered : last ≡ with_directories [] (first_directories site ++ flat_map directories_of (w.outcomes ++ through.evaluated.2.outcomes))
  ordered =
      let begin = first_directories site in
      let before = flat_map directories_of w.outcomes in
      let more = flat_map directories_of through.evaluated.2.outcomes in
      found ∙ (ap (λ (l : List Text). with_directories l more) w.order
      ∙ (sym (with-append [] (begin ++ before) more)
      ∙ ap (with_directories []) (append_assoc begin before more ∙ ap (λ (l : List Text). begin ++ l) (sym (flat_map_parts directories_of w.outcomes through.evaluated.2.outcomes)))))

  in_turn : AreModulesIn site (take (suc place) last) (map (λ (o : Evaluated). o.0) (w.outcomes ++ through.evaluated.2.outcomes))
  in_turn =
      let more = flat_map directories_of through.evaluated.2.outcomes in
      let b = begins dirs more in
      let taken : take (suc place) last ≡ take place dirs ++ dir ∷ [] = ap (take (suc place)) (found ∙ b.1) ∙ take_next place dirs b.0 dir at in
      let modules : map (λ (o : Evaluated). o.0) (w.outcomes ++ through.evaluated.2.outcomes) ≡ map (λ (o : Evaluated). o.0) w.outcomes ++ map (module_below dir) through.evaluated.0
      = map-append (λ (o : Evaluated). o.0) w.outcomes through.evaluated.2.outcomes ∙ ap (λ (l : List SiteModule). map (λ (o : Evaluated). o.0) w.outcomes ++ l) through.evaluated.2.modules in
      subst (λ (ds : List Text). AreModulesIn site ds (map (λ (o : Evaluated). o.0) (w.outcomes ++ through.evaluated.2.outcomes))) (sym taken)
      (subst (AreModulesIn site (take place dirs ++ dir ∷ [])) (sym modules)
      (modules_next site (take place dirs) (map (λ (o : Evaluated). o.0) w.outcomes) dir through.evaluated.0 w.modules through.evaluated.1))

  adds : (d : Text) → IsAmong d (flat_map directories_of through.evaluated.2.outcomes) → IsDirectory site d
  adds d a =
      let i = of_flat_map directories_of d through.evaluated.2.outcomes a in
      let h : EvaluatesTo site i.0.0 i.0.1 = through.evaluated.2.evaluated i.0 i.1 in
      let p = has_records site d i.0.0 i.0.1 h i.2 in
      let among : IsAmong i.0.0 (map (module_below dir) through.evaluated.0) = subst (IsAmong i.0.0)
      through.evaluated.2.modules (in_map (λ (o : Evaluated). o.0) i.0 through.evaluated.2.outcomes i.1) in
      added i.0.0 p.0 (walks_on site place dirs evaluations dir w at) (in_directory site dir through.evaluated.0 i.0.0 through.evaluated.1 among) p.1 p.2

  -- one directory more
  pub walk_goes_on : IsWalkTo site (suc place) last now
  walk_goes_on =
      record {
        outcomes = w.outcomes ++ through.evaluated.2.outcomes;
        order = ordered;
        modules = in_turn;
        evaluated = both_evaluated site w.outcomes through.evaluated.2.outcomes w.evaluated through.evaluated.2.evaluated;
        directories = λ d a. by_cases (came d dirs (flat_map directories_of through.evaluated.2.outcomes) (subst (IsAmong d) found a)) (w.directories d) (adds d);
        evaluations = subst (λ (xs : List Evaluation). AreEvaluations xs (w.outcomes ++ through.evaluated.2.outcomes)) (sym through.kept)
            (evaluations_parts evaluations through.below w.outcomes through.evaluated.2.outcomes w.evaluations through.evaluated.2.evaluations);
      }

module _ (site : Site) (place : ℕ) (dirs : List Text) (evaluations : List Evaluation) (w : IsWalkTo site place dirs evaluations) where
  once_each : dirs ≡ without_repeats (first_directories site ++ flat_map directories_of w.outcomes)
  once_each = w.order ∙ once (first_directories site ++ flat_map directories_of w.outcomes)

  closed : laws.OneOutcome → slice_get dirs place ≡ None → IsClosed site dirs
  closed one gone =
      let begin = first_directories site in
      let more = flat_map directories_of w.outcomes in
      let into : (d : Text) → IsAmong d (begin ++ more) → IsAmong d dirs = λ d a. subst (IsAmong d) (sym w.order) (comes d [] (begin ++ more) a) in
      let modules : AreModulesIn site dirs (map (λ (o : Evaluated). o.0) w.outcomes) = subst
      (λ (ds : List Text). AreModulesIn site ds (map (λ (o : Evaluated). o.0) w.outcomes))
      (take_all_gone place dirs gone) w.modules in
      record {
        begins = λ d a. into d (among_left d begin more a);
        adds = λ from d m rs there in_it left a.
            let i = of_map (λ (o : Evaluated). o.0) m w.outcomes (among_modules site dirs (map (λ (o : Evaluated). o.0) w.outcomes) from m modules there in_it) in
            let here : HasFirstRecords site i.0.0 rs = subst (λ (k : SiteModule). HasFirstRecords site k rs) i.2 left in
            into d (among_right d begin more (in_flat_map directories_of d i.0 w.outcomes i.1 (adds_its one site d i.0.0 i.0.1 rs (w.evaluated i.0 i.1) here a)));
      }

  -- at its end
  pub walk_ends : laws.OneOutcome → DirectoriesFound → length dirs ≤ most_directories → slice_get dirs place ≡ None
      → (outcomes : List Evaluated) × IsWalk site dirs outcomes × AreEvaluations evaluations outcomes
  walk_ends one law within gone = (
    w.outcomes,
    record {
      directories = law site dirs (closed one gone) w.directories;
      order = once_each;
      within = within;
      modules = subst (λ (ds : List Text). AreModulesIn site ds (map (λ (o : Evaluated). o.0) w.outcomes)) (take_all_gone place dirs gone) w.modules;
      evaluated = w.evaluated;
    },
    w.evaluations,
  )

  -- where it has found too many
  pub walk_exceeds : most_directories < length dirs → HasTooMany site
  walk_exceeds many = record {
    some = dirs;
    distinct = ap are_distinct once_each ∙ distinct_firsts (first_directories site ++ flat_map directories_of w.outcomes);
    many = many;
    directories = w.directories;
  }

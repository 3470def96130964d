-- What is deterministic in a site is so in a site that extends it.
use Rattle.std.proofs.Common.{◌≡◌, ℕ, true, List, [], ◌∷◌, Option, Some, None, Result, Ok, refl, sym, ◌∙◌, subst}
use Rattle.envvars.specs.Texts.{Text}
use Rattle.envvars.specs.Environment.{Environment}
use Rattle.tclrules.specs.declared.limits.Limits.{Limits}
use Rattle.filetree.specs.Agreement.{Files, Listings}
use Rattle.filetree.specs.Modulefiles.{script, modulefile, is_module, path_of}
use Rattle.filetree.specs.Relations.{Is, ◌>>◌}
use Rattle.modulename.specs.ModuleName.{parts}
use Rattle.modulefile.specs.Records.{Record}
use Rattle.modulefile.specs.Files.{Ran, RunsFile}
use Rattle.search.specs.Listed.{IsBelow, ReachesThrough}
use Rattle.requests.specs.Refusals.{RefusedAs}
use Rattle.requests.specs.Reasons.{RequestReason, file_refused}
use Rattle.requests.specs.Steps.{entries_of, script_at}
use Rattle.audit_laws.specs.determinism.Contexts.{EvaluationContext, first_context, other_contexts, FileRuns}
use Rattle.audit_laws.specs.site.Sites.{SiteModule, site_of, IsIn, context_in, EvaluatesBy, EvaluateBy, EvaluatesTo, HasFirstRecords}
use Rattle.audit_laws.specs.site.Sites.{HasDeterministicRecords, IsDirectory, first, added, IsOfSite, candidate_file}
use Rattle.audit_laws.specs.site.Extended.{IsExtendedBy, DeterministicModulesStay}
use Rattle.audit_laws.proofs.site.Evaluations.{evaluated}

-- ---- files that are there

there_as_script : (text : Text) (content : Option (List ℕ)) → modulefile content ≡ script text → (bytes : List ℕ) × (content ≡ Some bytes)
there_as_script text None h = absurd (cc)
there_as_script text (Some bytes) h = (bytes, refl)

there_as_module : (content : Option (List ℕ)) → is_module (modulefile content) ≡ true → (bytes : List ℕ) × (content ≡ Some bytes)
there_as_module None h = absurd (cc)
there_as_module (Some bytes) h = (bytes, refl)

module _ (limits : Limits) (env : Environment) (files : Files) (listings : Listings) (more_files : Files) (more_listings : Listings) (more : IsExtendedBy files listings more_files more_listings) where
  -- a file that is there is the same
  same_file : (path : Text) (there : (bytes : List ℕ) × (files path ≡ Some bytes)) → files path ≡ more_files path
  same_file path there = there.1 ∙ sym (more.files_stay path there.0 there.1)

  -- ---- evaluations

  same_by : (way : EvaluationContext) (m : SiteModule) (o : Result Ran RequestReason) → files m.path ≡ more_files m.path → EvaluatesBy (site_of limits env files listings) way m o
      → EvaluatesBy (site_of limits env more_files more_listings) way m o
  same_by way m o same h =
      subst (λ (content : Option (List ℕ)). (Is (entries_of env) >> (λ xs. Is (script_at m.path (modulefile content)) >> (λ text.
      RefusedAs file_refused (RunsFile limits (context_in (site_of limits env files listings) way m) text)))) o) same h

  same_each : (m : SiteModule) (ways : List EvaluationContext) (os : List (Result Ran RequestReason)) → files m.path ≡ more_files m.path
      → EvaluateBy (site_of limits env files listings) m ways os → EvaluateBy (site_of limits env more_files more_listings) m ways os
  same_each m [] [] same h = tt
  same_each m [] (o ∷ os) same h = absurd h
  same_each m (way ∷ ways) [] same h = absurd h
  same_each m (way ∷ ways) (o ∷ os) same h = (same_by way m o same h.0, same_each m ways os same h.1)

  to_stays : (m : SiteModule) (runs : FileRuns RequestReason) → EvaluatesTo (site_of limits env files listings) m (Ok runs)
      → EvaluatesTo (site_of limits env more_files more_listings) m (Ok runs)
  to_stays m runs h =
      let a = evaluated (site_of limits env files listings) first_context m runs.first h.0 in
      let same = same_file m.path (there_as_script a.text (files m.path) a.file) in
      (same_by first_context m (Ok runs.first) same h.0, same_each m (other_contexts runs.first.asked) runs.others same h.1)

  first_stays : (m : SiteModule) (rs : List Record) → HasFirstRecords (site_of limits env files listings) m rs → HasFirstRecords (site_of limits env more_files more_listings) m rs
  first_stays m rs h = record { runs = h.runs; evaluated = to_stays m h.runs h.evaluated; records = h.records }

  records_stay : (m : SiteModule) (rs : List Record) → HasDeterministicRecords (site_of limits env files listings) m rs → HasDeterministicRecords (site_of limits env more_files more_listings) m rs
  records_stay m rs h = record { runs = h.runs; evaluated = to_stays m h.runs h.evaluated; deterministic = h.deterministic; records = h.records }

  -- ---- directories

  reaches_still : (path : Text) (names : List Text) → ReachesThrough listings path names → ReachesThrough more_listings path names
  reaches_still path [] h = tt
  reaches_still path (name ∷ names) h = (more.entries_stay path name h.0, reaches_still (path_of path name) names h.1)

  below_still : (dir name : Text) → IsBelow files listings dir name → IsBelow more_files more_listings dir name
  below_still dir name h = record {
    spelled = h.spelled;
    reaches = reaches_still dir (parts name) h.reaches;
    file = subst (λ (content : Option (List ℕ)). is_module (modulefile content) ≡ true)
        (same_file (path_of dir name) (there_as_module (files (path_of dir name)) h.file)) h.file;
  }

  in_still : (dir : Text) (m : SiteModule) → IsIn (site_of limits env files listings) dir m → IsIn (site_of limits env more_files more_listings) dir m
  in_still dir m h = record { below = below_still dir m.name h.below; path = h.path }

  directory_still : (dir : Text) → IsDirectory (site_of limits env files listings) dir → IsDirectory (site_of limits env more_files more_listings) dir
  directory_still dir (first a) = first a
  directory_still dir (added {from = from} m rs d there records a) =
      added m rs (directory_still from d) (in_still from m there) (first_stays m rs records) a

  of_site_still : (m : SiteModule) → IsOfSite (site_of limits env files listings) m → IsOfSite (site_of limits env more_files more_listings) m
  of_site_still m h = record { dir = h.dir; directory = directory_still h.dir h.directory; there = in_still h.dir m h.there }

pub deterministic_modules_stay : DeterministicModulesStay
unfolding records_stay
deterministic_modules_stay limits env files listings more_files more_listings m more h = record {
  of_site = of_site_still limits env files listings more_files more_listings more (candidate_file m) h.of_site;
  records = records_stay limits env files listings more_files more_listings more (candidate_file m) m.records h.records;
  reads = h.reads;
}

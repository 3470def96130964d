-- Dry runs of the modules of an audit, one after another, and what they read.
use Rattle.std.proofs.Common.{◌≡◌, ◌+◌, ◌<◌, ◌≤◌, ℕ, zero, suc, arith, Bool, true, false, string_bytes, List, [], ◌∷◌, ◌++◌, map, take, length, get_or, Option}
use Rattle.std.proofs.Common.{String, Global, Some, None, refl, ap, sym, subst, ◌∙◌, inl, inr}
use Rattle.std.proofs.lemmas.Bool.{false≢true}
use Rattle.std.proofs.lemmas.List.{take_more}
use Rattle.std.proofs.lemmas.List.Elements.{All-weaker}
use Rattle.std.specs.Option.{ForSome}
use Rattle.std.specs.Prelude.{◌⊎◌}
use Rattle.envvars.specs.Environment.{Environment}
use Rattle.envvars.specs.Texts.{Text, texts_in}
use Rattle.filetree.specs.Agreement.{FailedAt, FailsIf, Files, InEachPair, Listings, Narrows, ReadsOn}
use Rattle.filetree.specs.Causes.{Cause, memory, device, because, Applies}
use Rattle.filetree.specs.hiding.Hidden.{AgreesWithout, AllFailed, without}
use Rattle.requests.specs.Reasons.{RequestReason}
use Rattle.requests.specs.Steps.{RequestContext}
use Rattle.modules.specs.Answers.{cause_of, is_of_device}
use Rattle.modules.specs.Responses.{count_cause}
use Rattle.modules.specs.Verdicts.{in_sh}
use Rattle.modules.specs.declared.refusal.Refusal.{Refusal}
use Rattle.modulecmd.specs.Command.{standard}
use Rattle.audit_certificate.specs.RecordUses.{IsAmong}
use Rattle.audit_laws.specs.site.Laws.{ModulesFound}
use Rattle.audit_laws.specs.site.Sites.{Site, Evaluated, IsOfSite, site_of}
use Rattle.audit_site.specs.Audits.{IsAudit, audited_file}
use Rattle.audit_site.specs.declared.auditing.AuditedModule.{AuditedModule}
use Rattle.audit_site.specs.declared.auditing.SiteAudit.{SiteAudit}
use Rattle.audit_report.specs.declared.readable.ReadableAudit.{ReadableAudit}
use Rattle.audit_dry_runs.specs.DryRuns.{DryRunLooksAt}
use Rattle.audit_dry_runs.specs.Views.{count_failed, has_failed}
use Rattle.audit_dry_runs.specs.declared.dry_run.DryRun.{DryRun}
use Rattle.audit_dry_runs.specs.declared.dry_run.DryRun.TheVariants.{Returns, Leaves, LoadRefused, UnloadRefused, AlreadyLoaded}
use Rattle.audit_dry_runs.specs.declared.dry_run.DryRun.TheVariants.{LoadsAnother}
use Rattle.modaudit.specs.command.Audits.{AreUnreadable, IsSiteFault, transient_failure}
use Rattle.modaudit.specs.command.Looked.{JudgedLooksAt, KeepsFailed, ReadsUnlessFails, SiteLooksAt, DryRunsLookAt}
use Rattle.modaudit.specs.command.Steps.{IsFoundWithout, IsReadable, IsTriedAudit}
use Rattle.modaudit.specs.command.NotUtf8.{concerned}
use Rattle.modaudit.specs.command.Tried.{AreDryRuns, IsDryRunOf, count_dry_run, failed_in, has_failed_dry_run}
use Rattle.modaudit.specs.declared.command.audit_fault.AuditFault.TheVariants.{Refused}
use Rattle.modaudit.specs.declared.command.readable.SeenAudit.{SeenAudit}
use Rattle.modaudit.proofs.command.DirectoryLemmas.{are_in}

-- ---- one dry run

by_cause : (c : Cause RequestReason) → is_of_device c ≡ true → 0 < count_cause c
by_cause memory e = absurd (false≢true e)
by_cause device e = omega arith
by_cause (because reason) e = absurd (false≢true e)

failed_counts : (dry_run : DryRun) → has_failed dry_run ≡ true → 0 < count_failed dry_run
failed_counts Returns e = absurd (false≢true e)
failed_counts (Leaves names) e = absurd (false≢true e)
failed_counts (LoadRefused refusal) e = by_cause (cause_of refusal) e
failed_counts (UnloadRefused refusal) e = by_cause (cause_of refusal) e
failed_counts AlreadyLoaded e = absurd (false≢true e)
failed_counts (LoadsAnother name path) e = absurd (false≢true e)

-- one that ended by the device has counted a failure
pub has_counted : (dry_run : DryRun) (old new : ℕ) → old + count_failed dry_run ≤ new → has_failed dry_run ≡ true → old < new
has_counted dry_run old new l e = omega (arith, l, failed_counts dry_run e)

pub dry_run_counted : (dry_run : Option DryRun) (old new : ℕ) → old + count_dry_run dry_run ≤ new → has_failed_dry_run dry_run ≡ true → old < new
dry_run_counted None old new l e = absurd (false≢true e)
dry_run_counted (Some dry_run) old new l e = has_counted dry_run old new l e

-- ---- one dry run more

are_more : (s : RequestContext) (not_utf8 : List Text) (e : Environment) (ms : List AuditedModule) (ts : List (Option DryRun)) (m : AuditedModule) (t : Option DryRun) → AreDryRuns s not_utf8 e ms ts → IsDryRunOf s not_utf8 e m t
    → AreDryRuns s not_utf8 e (ms ++ m ∷ []) (ts ++ t ∷ [])
are_more s not_utf8 e [] [] m t h k = (k, tt)
are_more s not_utf8 e [] (x ∷ ts) m t h k = absurd h
are_more s not_utf8 e (n ∷ ms) [] m t h k = absurd h
are_more s not_utf8 e (n ∷ ms) (x ∷ ts) m t h k = (h.0, are_more s not_utf8 e ms ts m t h.1 k)

pub dry_runs_turn : (s : RequestContext) (not_utf8 : List Text) (e : Environment) (ms : List AuditedModule) (i : ℕ) (m : AuditedModule) (ts more : List (Option DryRun)) (t : Option DryRun) → i < length ms → m ≡ get_or ms i m
    → more ≡ ts ++ t ∷ [] → AreDryRuns s not_utf8 e (take i ms) ts → IsDryRunOf s not_utf8 e m t → AreDryRuns s not_utf8 e (take (i + 1) ms) more
dry_runs_turn s not_utf8 e ms i m ts more t l is pushed h k =
    subst (λ (xs : List AuditedModule). AreDryRuns s not_utf8 e xs more) (sym (take_more ms i m l ∙ ap (λ (x : AuditedModule). take i ms ++ x ∷ []) (sym is)))
    (subst (λ (ys : List (Option DryRun)). AreDryRuns s not_utf8 e (take i ms ++ m ∷ []) ys) (sym pushed) (are_more s not_utf8 e (take i ms) ts m t h k))

failed_more : (ts : List (Option DryRun)) (t : Option DryRun) → failed_in (ts ++ t ∷ []) ≡ failed_in ts + count_dry_run t
failed_more [] t = omega arith
failed_more (x ∷ ts) t = omega (arith, failed_more ts t)

-- the failures of the dry runs so far, and of one more
pub counted_turn : (ts more : List (Option DryRun)) (t : Option DryRun) (old mid new : ℕ) → more ≡ ts ++ t ∷ [] → old + failed_in ts ≤ mid → mid + count_dry_run t ≤ new → old + failed_in more ≤ new
counted_turn ts more t old mid new pushed l k = subst (λ (xs : List (Option DryRun)). old + failed_in xs ≤ new) (sym pushed) (omega (arith, failed_more ts t, l, k))

-- ---- what is read

reads_trans : {T : Type 0} (agrees : T → Files → Listings → Type 0) (failures : T → ℕ) (old mid new : T) → ReadsOn agrees failures old mid → ReadsOn agrees failures mid new → ReadsOn agrees failures old new
reads_trans agrees failures old mid new h k = record {
  narrows = λ files listings a. h.narrows files listings (k.narrows files listings a);
  counts_failures = omega (arith, h.counts_failures, k.counts_failures);
}

failed_since : (before same now : Text → Bool) (at : Text) → same ≡ before → FailedAt same now at → FailedAt before now at
failed_since before same now at e f = subst (λ (b : Text → Bool). FailedAt b now at) e f

-- one reading more forgets no path with failures
pub keeps_turn : (fails : Bool) (old mid new : Text → Bool) (Where : Text → Type 0) → KeepsFailed old mid → FailsIf fails mid new Where → KeepsFailed old new
keeps_turn false old mid new Where k f path h = ap (λ (b : Text → Bool). b path) f ∙ k path h
keeps_turn true old mid new Where k f path h = f.1.kept path (k path h)

-- paths with failures stay so
pub all_kept : (before now : Text → Bool) → KeepsFailed before now → (paths : List Text) → AllFailed before paths → AllFailed now paths
all_kept before now k paths all = All-weaker (λ path. before path ≡ true) (λ path. now path ≡ true) k paths all

pub some_kept : (before now : Text → Bool) → KeepsFailed before now → (path : Option (String Global)) → ForSome path (λ p. before (string_bytes p) ≡ true) → ForSome path (λ p. now (string_bytes p) ≡ true)
some_kept before now k path some = λ p e. k (string_bytes p) (some p e)

-- one reading more
pub reads_turn : {T : Type 0} (agrees : T → Files → Listings → Type 0) (failures : T → ℕ) (failed : T → Text → Bool) (old mid new : T) (LooksAt : Files → Listings → Text → Type 0) (fails : Bool)
    → ReadsUnlessFails agrees failures failed old mid LooksAt → ReadsOn agrees failures mid new → (fails ≡ true → failures mid < failures new)
    → FailsIf fails (failed mid) (failed new) (λ at. InEachPair (agrees new) (λ files listings. LooksAt files listings at))
    → ReadsUnlessFails agrees failures failed old new LooksAt
reads_turn agrees failures failed old mid new LooksAt false (inl h) k counts f = inl (reads_trans agrees failures old mid new h.0 k, f ∙ h.1)
reads_turn agrees failures failed old mid new LooksAt true (inl h) k counts f = inr (record {
  mid = new;
  reads = reads_trans agrees failures old mid new h.0 k;
  counted = (omega (arith, h.0.counts_failures, counts refl), omega arith);
  at = f.0;
  failed_at = failed_since (failed old) (failed mid) (failed new) f.0 h.1 f.1;
  looks = f.2;
})
reads_turn agrees failures failed old mid new LooksAt fails (inr h) k counts f = inr (record {
  mid = h.mid;
  reads = h.reads;
  counted = (h.counted.0, omega (arith, h.counted.1, k.counts_failures));
  at = h.at;
  failed_at = h.failed_at;
  looks = h.looks;
})

-- failures are counted
pub counts_unless : {T : Type 0} (agrees : T → Files → Listings → Type 0) (failures : T → ℕ) (failed : T → Text → Bool) (old new : T) (LooksAt : Files → Listings → Text → Type 0)
    → ReadsUnlessFails agrees failures failed old new LooksAt → failures old ≤ failures new
counts_unless agrees failures failed old new LooksAt (inl h) = h.0.counts_failures
counts_unless agrees failures failed old new LooksAt (inr h) = omega (arith, h.counted.0, h.counted.1)

-- ---- the modules of an audit

among_map : {X Y : Type 0} (f : X → Y) (x : X) (xs : List X) → IsAmong x xs → IsAmong (f x) (map f xs)
among_map f x [] h = absurd h
among_map f x (y ∷ xs) (inl e) = inl (ap f e)
among_map f x (y ∷ xs) (inr h) = inr (among_map f x xs h)

pub among_at : {X : Type 0} (xs : List X) (i : ℕ) (x : X) → i < length xs → x ≡ get_or xs i x → IsAmong x xs
among_at [] i x l e = absurd (omega (arith, l))
among_at (y ∷ ys) zero x l e = inl e
among_at (y ∷ ys) (suc i) x l e = inr (among_at ys i x (omega (arith, l)) e)

of_site : ModulesFound → (site : Site) (excluded : List Text) (found : SiteAudit) (m : AuditedModule) → IsAudit site excluded found → IsAmong m found.modules.items → IsOfSite site (audited_file m)
of_site law site excluded found m a among =
    (law site a.dirs (map (λ (o : Evaluated). o.0) a.outcomes) a.walk.directories a.walk.modules (audited_file m)).0
    (subst (IsAmong (audited_file m)) a.modules (among_map audited_file m found.modules.items among))

-- ---- an audit and its dry runs

pairs_later : (paths : List Text) (before after : Files → Listings → Type 0) → Narrows before after → Narrows (AgreesWithout paths before) (AgreesWithout paths after)
pairs_later paths before after n = λ files listings a. record {
  all_files = a.all_files;
  all_folders = a.all_folders;
  agree = n a.all_files a.all_folders a.agree;
  files_left = a.files_left;
  folders_left = a.folders_left;
}

found_later : (before after : Files → Listings → Type 0) (paths : List Text) (judged : Environment) (dirs excluded : List Text) (found : SiteAudit) → Narrows before after
    → IsFoundWithout before paths judged dirs excluded found → IsFoundWithout after paths judged dirs excluded found
found_later before after paths judged dirs excluded found n f = record {
  directories = are_in before after dirs n f.directories;
  begins = f.begins;
  exact = λ files listings a. f.exact files listings (pairs_later paths before after n files listings a);
  holds = λ files listings a. f.holds files listings (pairs_later paths before after n files listings a);
}

module _ {T : Type 0} (agrees : T → Files → Listings → Type 0) (failures : T → ℕ) (failed : T → Text → Bool) (old mid new : T) (judged : Environment) (dirs excluded : List Text) (seen : SeenAudit)
    (reads : ReadsOn agrees failures mid new) (kept : KeepsFailed (failed mid) (failed new))
    (readable : IsReadable (agrees mid) (failed mid) (failures old < failures mid) (failures mid) judged dirs excluded seen) where
  abbrev paths : List Text
  paths = texts_in seen.unreadable

  caused : (count : ℕ) → failures mid + count ≤ failures new → (paths ≡ []) ⊎ (failures old < failures mid) → (paths ≡ []) ⊎ (failures old + count < failures new)
  caused count k (inl e) = inl e
  caused count k (inr l) = inr (omega (arith, l, k))

  pub tried_audit : (audit : ReadableAudit) (not_utf8 : List Text) → audit.found ≡ seen.found → audit.unreadable ≡ seen.unreadable → failures old ≤ failures mid
      → InEachPair (agrees new) (λ files listings. AreDryRuns (in_sh standard files listings) not_utf8 judged seen.found.modules.items audit.dry_runs.items)
      → failures mid + failed_in audit.dry_runs.items ≤ failures new
      → texts_in audit.not_utf8 ≡ concerned seen.found.certificate.items not_utf8
      → IsTriedAudit (agrees new) (failed new) (failures old) (failures new) judged not_utf8 dirs excluded audit
  tried_audit audit not_utf8 same_found same_paths counts tried ended kept_names =
      let count = failed_in audit.dry_runs.items in
      record {
        unreadable = subst (λ (ps : _). AreUnreadable (failed new) (failures old + count < failures new) (texts_in ps)) (sym same_paths)
            (record {
              order = readable.unreadable.order;
              failed = all_kept (failed mid) (failed new) kept paths readable.unreadable.failed;
              cause = caused count ended readable.unreadable.cause;
            });
        found = subst (λ (ps : _). IsFoundWithout (agrees new) (texts_in ps) judged dirs excluded audit.found) (sym same_paths)
            (subst (λ (f : SiteAudit). IsFoundWithout (agrees new) paths judged dirs excluded f) (sym same_found)
            (found_later (agrees mid) (agrees new) paths judged dirs excluded seen.found reads.narrows readable.found));
        tried = subst (λ (f : SiteAudit). InEachPair (agrees new) (λ files listings. AreDryRuns (in_sh standard files listings) not_utf8 judged f.modules.items audit.dry_runs.items)) (sym same_found) tried;
        failed = omega (arith, counts, ended);
        counted = subst (λ (ps : _). length (texts_in ps) + count ≤ failures new) (sym same_paths) (omega (arith, readable.counted, ended));
        named = subst (λ (f : SiteAudit). texts_in audit.not_utf8 ≡ concerned f.certificate.items not_utf8) (sym same_found) kept_names;
      }

  -- the dry runs read on, at paths of their own
  pub reads_with_dry_runs : ModulesFound → ReadsUnlessFails agrees failures failed old mid (SiteLooksAt judged dirs) → ReadsUnlessFails agrees failures failed mid new (DryRunsLookAt judged seen.found.modules.items)
      → ReadsUnlessFails agrees failures failed old new (JudgedLooksAt judged dirs)
  reads_with_dry_runs law (inl h) (inl k) = inl (reads_trans agrees failures old mid new h.0 k.0, k.1 ∙ h.1)
  reads_with_dry_runs law (inl h) (inr f) = inr (record {
    mid = f.mid;
    reads = reads_trans agrees failures old mid f.mid h.0 f.reads;
    counted = (omega (arith, h.0.counts_failures, f.counted.0), f.counted.1);
    at = f.at;
    failed_at = failed_since (failed old) (failed mid) (failed f.mid) f.at h.1 f.failed_at;
    looks = λ files listings a.
        let t = f.looks files listings a in
        let pair : AgreesWithout paths (agrees mid) (without paths files) (without paths listings) =
        record { all_files = files; all_folders = listings; agree = f.reads.narrows files listings a; files_left = refl; folders_left = refl } in
        inr (record {
          paths = paths;
          m = audited_file t.0;
          of_site = of_site law (site_of standard judged (without paths files) (without paths listings)) excluded seen.found t.0 (readable.found.exact (without paths files) (without paths listings) pair) t.1;
          looks = t.2;
        });
  })
  reads_with_dry_runs law (inr h) k = inr (record {
    mid = h.mid;
    reads = h.reads;
    counted = (h.counted.0, omega (arith, h.counted.1, reads.counts_failures));
    at = h.at;
    failed_at = h.failed_at;
    looks = λ files listings a. inl (h.looks files listings a);
  })

-- want of memory
pub out_of_memory : (agrees : Files → Listings → Type 0) (has_failed : Text → Bool) (often : Type 0) (judged : Environment) (dirs : List Text) (refusal : Refusal) → cause_of refusal ≡ memory
    → IsSiteFault agrees has_failed often judged dirs (Refused refusal)
out_of_memory agrees has_failed often judged dirs refusal e = transient_failure refusal (subst (λ (c : Cause RequestReason). Applies c often (λ reason. ⊥)) (sym e) tt)

-- one of the modules is tried
pub looks_among : (agrees : Files → Listings → Type 0) (judged : Environment) (modules : List AuditedModule) (m : AuditedModule) (fails : Bool) (before now : Text → Bool) → IsAmong m modules
    → FailsIf fails before now (λ at. InEachPair agrees (λ files listings. DryRunLooksAt (in_sh standard files listings) judged (string_bytes m.name) (string_bytes m.path) at))
    → FailsIf fails before now (λ at. InEachPair agrees (λ files listings. DryRunsLookAt judged modules files listings at))
looks_among agrees judged modules m false before now among h = h
looks_among agrees judged modules m true before now among h = (h.0, h.1, λ files listings a. (m, among, h.2 files listings a))

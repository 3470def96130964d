-- What modaudit reported as certified is certified where all is there that it read.
use Rattle.std.proofs.Common.{◌≡◌, ◌⊎◌, inl, inr, Bool, true, false, cond, not, List, [], ◌∷◌, ◌++◌, map, filter, Option, Some, None, refl, ap, sym, ◌∙◌, subst}
use Rattle.std.proofs.lemmas.Bool.{false≢true}
use Rattle.envvars.specs.Texts.{Text}
use Rattle.envvars.specs.Environment.{Environment}
use Rattle.tclrules.specs.declared.limits.Limits.{Limits}
use Rattle.filetree.specs.Agreement.{Files, Listings}
use Rattle.filetree.specs.hiding.Hidden.{is_among, without}
use Rattle.modulefile.specs.Laws as files
use Rattle.modulefile.specs.Records.{Record}
use Rattle.modulefile.specs.Moves.{Module, Move, Loads, Unloads}
use Rattle.reversal.specs.VariableUses.{UsedVariable}
use Rattle.reversal.specs.Runs.{live_after}
use Rattle.requests.specs.Returning.{AreNew}
use Rattle.requests.specs.hand_changes.Events.{Event, act, by_hand, moves_of, EventsReachWhile}
use Rattle.requests.specs.hand_changes.HandChanges.{changed, start_after}
use Rattle.audit_certificate.specs.RecordUses.{IsAmong, used_by, uses_by}
use Rattle.audit_certificate.specs.Candidates.{Candidate, read_of, uses_of, uses_of_all}
use Rattle.audit_certificate.specs.Certificates.{certified, AgreesWith}
use Rattle.audit_certificate.specs.Laws.{CertifiedAreExact}
use Rattle.audit_certificate.proofs.UsedLemmas.{by_cases, among_left, among_right}
use Rattle.audit_certificate.proofs.OnceLemmas.{in_once}
use Rattle.audit_certificate.proofs.Exact.{filtered}
use Rattle.audit_laws.specs.determinism.Contexts.{FileRuns}
use Rattle.requests.specs.Reasons.{RequestReason}
use Rattle.audit_laws.specs.site.Sites.{Site, SiteModule, site_of, candidate_of, is_excluded, deterministic_among, file_of, ReadsEquivalently}
use Rattle.audit_laws.specs.site.Standings as standings
use Rattle.audit_laws.specs.site.Standings.{HasStanding}
use Rattle.audit_laws.specs.site.Laws.{AreDeterministic, IsOneOf, LoadsAreOf}
use Rattle.audit_laws.specs.site.Extended.{IsExtendedBy, DeterministicModulesStay}
use Rattle.audit_laws.proofs.site.Evaluations.{same_runs}
use Rattle.audit_site.specs.declared.auditing.AuditedModule.{AuditedModule}
use Rattle.audit_site.specs.declared.auditing.SiteAudit.{SiteAudit}
use Rattle.audit_site.specs.declared.standing.AuditStanding.{AuditStanding}
use Rattle.audit_site.specs.declared.standing.AuditStanding.TheVariants.{Certified, Unstable, OneWay, Inconsistent, Excluded, Clashes, Refused}
use Rattle.audit_site.specs.Audits.{StandsAs, AllStand, audited_file, is_certified, certified_files, remaining}
use Rattle.modulecmd.specs.Command.{standard}
use Rattle.modulecmd.specs.Runs.{PrintedCommand, command_moves, moves_in, CommandMakes}
use Rattle.modulecmd.proofs.RunLemmas.{AllAllowed, alone, same_moves}
use Rattle.requests.proofs.hand_changes.EventLemmas.{new_parts}
use Rattle.modaudit.specs.command.SiteCommands.{CommandLoads, HandsLeaveReads, SiteShellsAndHandsReturn}
use Rattle.modaudit.specs.command.WayBack.{IsSession, live_at_end, SiteSessionsLayer, SiteWayBackIsOpen}
use Rattle.modaudit.specs.command.Moments.{SuitsStart, IsReported, HoldsAtMoment}
use Rattle.modaudit.specs.command.Reported.{LoadsAreReported, CommandLoadsReported, LoadsAreNamed, audited_env, reported_site}
use Rattle.modaudit.specs.command.Reported.{ReportedModulesReturn, MomentsAreSessions, AuditedStartReturns, TreesHaveAllThatWasRead}
use Rattle.modaudit.proofs.command.SiteCommandLemmas.{commands_leave}
use Rattle.modaudit.proofs.command.MomentLemmas as moments
use Rattle.modaudit.proofs.command.MomentLemmas.{IsCertain}

-- ---- maps

still_there : {X : Type 0} (b : Bool) (there : Option X) (x : X) → cond b None there ≡ Some x → there ≡ Some x
still_there true there x h = absurd (cc)
still_there false there x h = h

pub trees_have_all : (agrees : Files → Listings → Type 0) → TreesHaveAllThatWasRead agrees
trees_have_all agrees unreadable files listings there = record {
  read_files = without unreadable files;
  read_listings = without unreadable listings;
  agree = record { all_files = files; all_folders = listings; agree = there; files_left = refl; folders_left = refl };
  extended = record {
    files_stay = λ path bytes h. still_there (is_among unreadable path) (files path) bytes h;
    entries_stay = λ path name h. (h.0, still_there (is_among unreadable path) (listings path) h.0 h.1, h.2);
  };
}

-- ---- modules that the report calls certified

standing_of : (site : Site) (names : List Text) (ms : List Candidate) (m : SiteModule) (standing : AuditStanding) → is_certified standing ≡ true → StandsAs site names ms m standing
    → HasStanding site ms m standings.Certified
standing_of site names ms m Certified t h = h
standing_of site names ms m (Unstable first) t h = absurd (false≢true t)
standing_of site names ms m (OneWay first) t h = absurd (false≢true t)
standing_of site names ms m (Inconsistent variable one other) t h = absurd (false≢true t)
standing_of site names ms m Excluded t h = absurd (false≢true t)
standing_of site names ms m (Clashes clash) t h = absurd (false≢true t)
standing_of site names ms m (Refused refusal) t h = absurd (false≢true t)

first_or_later : (m : SiteModule) (a : AuditedModule) (rest : List AuditedModule) (b : Bool) → IsAmong m (map audited_file (cond b (a ∷ rest) rest))
    → ((b ≡ true) × (m ≡ audited_file a)) ⊎ IsAmong m (map audited_file rest)
first_or_later m a rest true (inl e) = inl (refl, e)
first_or_later m a rest true (inr k) = inr k
first_or_later m a rest false k = inr k

certified_stands : (site : Site) (names : List Text) (ms : List Candidate) (items : List AuditedModule) (m : SiteModule) → AllStand site names ms items → IsAmong m (certified_files items)
    → HasStanding site ms m standings.Certified
certified_stands site names ms [] m all k = absurd k
certified_stands site names ms (a ∷ items) m all k =
    by_cases (first_or_later m a (filter (λ (x : AuditedModule). is_certified x.standing) items) (is_certified a.standing) k)
    (λ i. subst (λ (x : SiteModule). HasStanding site ms x standings.Certified) (sym i.1) (standing_of site names ms (audited_file a) a.standing i.0 all.0))
    (λ i. certified_stands site names ms items m all.1 i)

-- ---- where there is more

-- what the report is about, and a site that extends it
record IsIn (limits : Limits) (env : Environment) (files : Files) (listings : Listings) (more_files : Files) (more_listings : Listings) (names : List Text) (ms : List Candidate) (found : SiteAudit)
    : Type 0 where
  extended : IsExtendedBy files listings more_files more_listings
  standing : AllStand (site_of limits env files listings) names ms found.modules.items
  deterministic : AreDeterministic (site_of limits env files listings) ms

suits_one : files.OneOutcome → CertifiedAreExact → DeterministicModulesStay → (limits : Limits) (env : Environment) (files : Files) (listings : Listings) (more_files : Files)
    (more_listings : Listings) (names : List Text) (ms : List Candidate) (found : SiteAudit) → IsIn limits env files listings more_files more_listings names ms found
    → (start : Environment) (m : SiteModule) → SuitsStart (site_of limits env more_files more_listings) found start m → IsCertain ms start m
suits_one one exact stay limits env files listings more_files more_listings names ms found k start m r =
    let more = site_of limits env more_files more_listings in
    let s = certified_stands (site_of limits env files listings) names ms found.modules.items m k.standing r.certified in
    let c : Candidate = candidate_of m s.0 in
    let d = stay limits env files listings more_files more_listings c k.extended (k.deterministic c s.3.listed) in
    let runs = same_runs one more m d.records.runs r.first.runs d.records.evaluated r.first.evaluated in
    let same : r.records ≡ c.records = r.first.records ∙ (ap (λ (x : FileRuns RequestReason). x.first.records) runs ∙ sym d.records.records) in
    record { certain = c; certified = s.3; file = refl; agrees = subst (λ (rs : List Record). AgreesWith (used_by rs) start) same r.agrees }

reported_one : files.OneOutcome → CertifiedAreExact → DeterministicModulesStay → (limits : Limits) (env : Environment) (files : Files) (listings : Listings) (more_files : Files)
    (more_listings : Listings) (names : List Text) (ms : List Candidate) (found : SiteAudit) → IsIn limits env files listings more_files more_listings names ms found
    → (start : Environment) (m : SiteModule) → IsReported (site_of limits env more_files more_listings) found start m
    → IsOneOf (site_of limits env more_files more_listings) (certified ms) start m.name m.path
reported_one one exact stay limits env files listings more_files more_listings names ms found k start m r =
    let c = suits_one one exact stay limits env files listings more_files more_listings names ms found k start m r.suits in (
      c.certain,
      (exact ms c.certain).1 c.certified,
      ap (λ (x : SiteModule). x.name) c.file,
      ap (λ (x : SiteModule). x.path) c.file,
      c.agrees,
      subst (ReadsEquivalently (site_of limits env more_files more_listings) start) (sym c.file) r.reads,
    )

reported_loads : files.OneOutcome → CertifiedAreExact → DeterministicModulesStay → (limits : Limits) (env : Environment) (files : Files) (listings : Listings) (more_files : Files)
    (more_listings : Listings) (names : List Text) (ms : List Candidate) (found : SiteAudit) → IsIn limits env files listings more_files more_listings names ms found
    → (start : Environment) (moves : List Move) → LoadsAreReported (site_of limits env more_files more_listings) found start moves
    → LoadsAreOf (site_of limits env more_files more_listings) (certified ms) start moves
reported_loads one exact stay limits env files listings more_files more_listings names ms found k start [] h = tt
reported_loads one exact stay limits env files listings more_files more_listings names ms found k start (Loads m ∷ moves) h = (
  reported_one one exact stay limits env files listings more_files more_listings names ms found k start (file_of m) h.0,
  reported_loads one exact stay limits env files listings more_files more_listings names ms found k start moves h.1,
)
reported_loads one exact stay limits env files listings more_files more_listings names ms found k start (Unloads m ∷ moves) h =
    reported_loads one exact stay limits env files listings more_files more_listings names ms found k start moves h

-- ---- sessions

-- what is allowed in place of what was
allowed_so : (P Q : Environment → PrintedCommand → Type 0) → ((b : Environment) (c : PrintedCommand) → P b c → Q b c) → (files : Files) (listings : Listings)
    (events : List (Event PrintedCommand)) (live : List Module) (start e last_start last : Environment)
    → EventsReachWhile command_moves (CommandMakes files listings) uses_by P live start e events last_start last
    → EventsReachWhile command_moves (CommandMakes files listings) uses_by Q live start e events last_start last
allowed_so P Q f files listings [] live start e last_start last h = h
allowed_so P Q f files listings (act c ∷ events) live start e last_start last (allowed, (next, made, after)) =
    (f start c allowed, (next, made, allowed_so P Q f files listings events (live_after live (command_moves c)) start next last_start last after))
allowed_so P Q f files listings (by_hand c ∷ events) live start e last_start last (may, after) =
    (may, allowed_so P Q f files listings events live (start_after (uses_by live) live start e c) (changed c e) last_start last after)

-- a beginning of a session

reach_front : (Allows : Environment → PrintedCommand → Type 0) (files : Files) (listings : Listings) (before after : List (Event PrintedCommand)) (live : List Module)
    (start e last_start last : Environment) → EventsReachWhile command_moves (CommandMakes files listings) uses_by Allows live start e (before ++ after) last_start last
    → (now_start now : Environment) × EventsReachWhile command_moves (CommandMakes files listings) uses_by Allows live start e before now_start now
reach_front Allows files listings [] after live start e last_start last h = (start, e, (refl, refl))
reach_front Allows files listings (act c ∷ before) after live start e last_start last (allowed, (next, made, rest)) =
    let r = reach_front Allows files listings before after (live_after live (command_moves c)) start next last_start last rest in
    (r.0, r.1, (allowed, (next, made, r.2)))
reach_front Allows files listings (by_hand c ∷ before) after live start e last_start last (may, rest) =
    let r = reach_front Allows files listings before after live (start_after (uses_by live) live start e c) (changed c e) last_start last rest in
    (r.0, r.1, (may, r.2))

new_join : (start : Environment) (some more : List Move) → AreNew start some → AreNew start more → AreNew start (some ++ more)
new_join start [] more h k = k
new_join start (m ∷ some) more h k = (h.0, new_join start some more h.1 k)

new_front : (start : Environment) (before after : List (Event PrintedCommand)) → AreNew start (moves_of command_moves (before ++ after)) → AreNew start (moves_of command_moves before)
new_front start [] after h = tt
new_front start (act c ∷ before) after h =
    let n = new_parts start (command_moves c) (moves_of command_moves (before ++ after)) h in
    new_join start (command_moves c) (moves_of command_moves before) n.0 (new_front start before after n.1)
new_front start (by_hand c ∷ before) after h = new_front start before after h

unread_front : (site : Site) (live : List Module) (before after : List (Event PrintedCommand)) → HandsLeaveReads site live (before ++ after) → HandsLeaveReads site live before
unread_front site live [] after h = tt
unread_front site live (act c ∷ before) after h = unread_front site (live_after live (command_moves c)) before after h
unread_front site live (by_hand c ∷ before) after h = (h.0, unread_front site live before after h.1)

pub moments_are_sessions : MomentsAreSessions
moments_are_sessions site found start last_start last before after session =
    let r = reach_front (CommandLoadsReported site found) site.files site.listings before after [] start start last_start last session.reach in
    (r.0, r.1, record { order = session.order; reach = r.2; new = new_front start before after session.new; unread = unread_front site [] before after session.unread })

-- those that remain are deterministic
remain : (site : Site) (names : List Text) (ms : List Candidate) → AreDeterministic site ms → AreDeterministic site (remaining names ms)
remain site names ms all m a = all m (filtered (λ (k : Candidate). not (is_excluded names k.name)) ms m a).0

-- the laws that these rest on
pub record Laws : Type 0 where
  pub one : files.OneOutcome
  pub exact : CertifiedAreExact
  pub stay : DeterministicModulesStay
  pub returns : SiteShellsAndHandsReturn
  pub layer : SiteSessionsLayer
  pub back : SiteWayBackIsOpen
  pub at_moment : moments.Laws

pub reported_modules_return : Laws → (agrees : Files → Listings → Type 0) (has_failed : Text → Bool) → ReportedModulesReturn agrees has_failed
reported_modules_return laws agrees has_failed before now e not_utf8 arguments wanted audit files listings start last_start last events audited has session =
    let env = audited_env e wanted in
    let a = audited.exact has.read_files has.read_listings has.agree in
    let ms : List Candidate = remaining wanted.without (deterministic_among a.outcomes) in
    let judged : AreDeterministic (site_of standard env has.read_files has.read_listings) ms =
    remain (site_of standard env has.read_files has.read_listings) wanted.without (deterministic_among a.outcomes) (λ m k. (a.deterministic m).0 k) in
    let more = reported_site e wanted files listings in
    let all : AreDeterministic more ms = λ m k. laws.stay standard env has.read_files has.read_listings files listings m has.extended (judged m k) in
    let is_in : IsIn standard env has.read_files has.read_listings files listings wanted.without ms audit.found =
    record { extended = has.extended; standing = a.standing; deterministic = judged } in
    let reach = allowed_so (CommandLoadsReported more audit.found) (CommandLoads more (certified ms))
    (λ b c h. reported_loads laws.one laws.exact laws.stay standard env has.read_files has.read_listings files listings wanted.without ms audit.found is_in b (command_moves c) h)
    files listings events [] start start last_start last session.reach in
    let allowed : IsSession more (CommandLoads more (certified ms)) start last_start last events =
    record { order = session.order; reach = reach; new = session.new; unread = session.unread } in
    let left = laws.layer env files listings ms start last_start last events all allowed in
    record {
      returned = (laws.returns env files listings ms start last_start last events all session.order reach session.new session.unread).1;
      way_back = laws.back env files listings ms start last_start last events all allowed;
      commands = moments.commands_end laws.at_moment env files listings ms audit.found (live_at_end events) last last_start left.over
          (suits_one laws.one laws.exact laws.stay standard env has.read_files has.read_listings files listings wanted.without ms audit.found is_in last_start);
    }

-- ---- from the environment of the audit

named_parts : (found : SiteAudit) (moves more : List Move) → LoadsAreNamed found (moves ++ more) → LoadsAreNamed found moves × LoadsAreNamed found more
named_parts found [] more h = (tt, h)
named_parts found (Loads m ∷ moves) more h = let p = named_parts found moves more h.1 in ((h.0, p.0), p.1)
named_parts found (Unloads m ∷ moves) more h = named_parts found moves more h

-- what a certified module uses is in the certificate
used_by_all : (p : UsedVariable) (c : Candidate) (ms : List Candidate) → IsAmong c ms → IsAmong p (used_by c.records) → IsAmong p (uses_of_all ms)
used_by_all p c [] a u = absurd a
used_by_all p c (m ∷ ms) (inl e) u =
    among_left p (uses_of m) (uses_of_all ms)
    (among_left p (used_by m.records) (map read_of m.reads) (subst (λ (k : Candidate). IsAmong p (used_by k.records)) e u))
used_by_all p c (m ∷ ms) (inr a) u = among_right p (uses_of m) (uses_of_all ms) (used_by_all p c ms a u)

module _ (one : files.OneOutcome) (exact : CertifiedAreExact) (stay : DeterministicModulesStay) (limits : Limits) (env : Environment) (files : Files) (listings : Listings) (more_files : Files)
    (more_listings : Listings) (names : List Text) (ms : List Candidate) (found : SiteAudit) (k : IsIn limits env files listings more_files more_listings names ms found)
    (suits : AgreesWith (uses_of_all (certified ms)) env) where
  named_one : (m : SiteModule) → IsAmong m (certified_files found.modules.items) → IsReported (site_of limits env more_files more_listings) found env m
  named_one m a =
      let s = certified_stands (site_of limits env files listings) names ms found.modules.items m k.standing a in
      let c : Candidate = candidate_of m s.0 in
      let d = stay limits env files listings more_files more_listings c k.extended (k.deterministic c s.3.listed) in
      record {
        suits = record {
          certified = a;
          records = c.records;
          first = record { runs = d.records.runs; evaluated = d.records.evaluated; records = d.records.records };
          agrees = record { loaded = suits.loaded; uses = λ v x u. suits.uses v x (used_by_all (v, x) c (certified ms) ((exact ms c).1 s.3) u) };
        };
        reads = λ v r. refl;
      }

  named_loads : (moves : List Move) → LoadsAreNamed found moves → LoadsAreReported (site_of limits env more_files more_listings) found env moves
  named_loads [] h = tt
  named_loads (Loads m ∷ moves) h = (named_one (file_of m) h.0, named_loads moves h.1)
  named_loads (Unloads m ∷ moves) h = named_loads moves h

  named_commands : (cs : List PrintedCommand) → LoadsAreNamed found (moves_in cs) → AllAllowed (CommandLoadsReported (site_of limits env more_files more_listings) found) env cs
  named_commands [] h = tt
  named_commands (c ∷ cs) h =
      let p = named_parts found (command_moves c) (moves_in cs) h in (named_loads (command_moves c) p.0, named_commands cs p.1)

pub audited_start_returns : files.OneOutcome → CertifiedAreExact → DeterministicModulesStay → (agrees : Files → Listings → Type 0) (has_failed : Text → Bool)
    → ReportedModulesReturn agrees has_failed → AuditedStartReturns agrees has_failed
audited_start_returns one exact stay agrees has_failed returns before now e not_utf8 arguments wanted audit files listings last cs audited has none holds news named =
    let env = audited_env e wanted in
    let a = audited.exact has.read_files has.read_listings has.agree in
    let ms : List Candidate = remaining wanted.without (deterministic_among a.outcomes) in
    let agreeing = a.agrees.0 none in
    let suits : AgreesWith (uses_of_all (certified ms)) env = record {
      loaded = agreeing.loaded;
      uses = λ v x u. agreeing.uses v x (subst (IsAmong (v, x)) (sym a.certificate) (in_once (v, x) (uses_of_all (certified ms)) u));
    } in
    let is_in : IsIn standard env has.read_files has.read_listings files listings wanted.without ms audit.found = record {
      extended = has.extended;
      standing = a.standing;
      deterministic = remain (site_of standard env has.read_files has.read_listings) wanted.without (deterministic_among a.outcomes) (λ m k. (a.deterministic m).0 k);
    } in
    let more = reported_site e wanted files listings in
    let allowed = named_commands one exact stay standard env has.read_files has.read_listings files listings wanted.without ms audit.found is_in suits cs named in
    let same : moves_of command_moves (map act cs) ≡ moves_in cs = same_moves cs in
    let session : IsSession more (CommandLoadsReported more audit.found) env env last (map act cs) = record {
      order = suits.loaded;
      reach = alone uses_by (CommandLoadsReported more audit.found) files listings env cs [] env last allowed holds;
      new = subst (AreNew env) (sym same) news;
      unread = commands_leave more [] cs;
    } in
    subst (λ (moves : List Move). HoldsAtMoment more audit.found (live_after [] moves) last env) same
    (returns before now e not_utf8 arguments wanted audit files listings env env last (map act cs) audited has session)

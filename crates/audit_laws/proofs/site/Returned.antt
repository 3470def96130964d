-- Sessions and commands of certified modules, by the law of moves.
use Rattle.std.proofs.Common.{◌≡◌, inl, inr, true, false, List, [], ◌∷◌, ◌++◌, Some, Ok, refl, ap, sym, ◌∙◌}
use Rattle.std.proofs.Common.{subst}
use Rattle.std.specs.Prelude.{bytes_eq}
use Rattle.std.specs.List.{list_any}
use Rattle.modulename.specs.ModuleName.{means}
use Rattle.envvars.specs.Texts.{Text, has}
use Rattle.envvars.specs.Environment.{Environment}
use Rattle.envvars.proofs.TextLemmas.{or_right}
use Rattle.envstate.specs.loaded_list.Loaded.{Entry, names_of, loaded_in}
use Rattle.envstate.proofs.StateLemmas.{list_in_order}
use Rattle.modulefile.specs.Laws as files
use Rattle.modulefile.specs.Records.{Record, conflict_names}
use Rattle.modulefile.specs.Effects.{load}
use Rattle.modulefile.specs.Moves.{Module, Move, Loads, Unloads, module_of_move, Fits, moved, MovesReach}
use Rattle.reversal.specs.Live.{entries_over}
use Rattle.reversal.specs.Starts.{IsStartWith}
use Rattle.reversal.specs.Requests as moves
use Rattle.reversal.specs.Undone.{UndoEquivalently}
use Rattle.reversal.specs.Runs.{without_live, live_after, Undoes}
use Rattle.requests.specs.Requests.{Request}
use Rattle.requests.specs.Steps.{RequestContext}
use Rattle.requests.specs.Sessions.{Response, Session, in_shell, env_after, end_environment, outcome_of, session_moves}
use Rattle.requests.specs.Returning.{IsNew, AreNew}
use Rattle.requests.specs.Laws.{SessionsReach, StepsReach}
use Rattle.requests.proofs.Undone.{same_list}
use Rattle.audit_laws.specs.determinism.StableInput.{is_changing}
use Rattle.audit_certificate.specs.RecordUses.{IsAmong, used_by, uses_by}
use Rattle.audit_certificate.specs.Candidates.{Candidate}
use Rattle.audit_certificate.specs.Clashes.{names_in_conflict, in_conflict, in_conflict_with_entry}
use Rattle.audit_certificate.specs.Certificates.{IsCertified, certified, AgreesWith}
use Rattle.audit_certificate.specs.Laws.{CertifiedAreExact, IsAsCertified, AreCertified, EntriesHaveConflicts, AreLayered}
use Rattle.audit_certificate.specs.Laws.{CertifiedMovesPreserve, NoneIsLayered}
use Rattle.audit_certificate.proofs.AsCertified.{used_alike}
use Rattle.audit_certificate.proofs.MovedVariables.{not_named}
use Rattle.audit_laws.specs.site.Sites.{Site, SiteModule, over_site, HasDeterministicRecords, ReadsEquivalently, file_of, candidate_file}
use Rattle.audit_laws.specs.site.Admitted.{IsAdmitted}
use Rattle.audit_laws.specs.site.Laws.{LoadEquivalently, DeterministicRecordsAreAll, LoadsAreOf, AreDeterministic, SiteSessionsReturn}
use Rattle.audit_laws.specs.site.Laws.{AuditsHold, AreReadEquivalently, SiteCommandsReturn}
use Rattle.audit_laws.proofs.site.Admissions.{mode_of, IsFrom, TracedReach, traced, any_shell, session_traced}
use Rattle.audit_laws.proofs.site.Forbidden.{no_conflict}
use Rattle.audit_laws.proofs.site.LiveReads.{named_among, live_certified, certain_records, same_file, left_alike, IsFreeOf, reads_as_start, live_free}
use Rattle.audit_laws.proofs.site.Unloaded.{of_live}

-- ---- what is read has the values of the environment at hand

loaded_alike : (site : Site) (start : Environment) (live : List Module) (m : Module) (c : Candidate) → c.name ≡ m.name → c.path ≡ m.path → ReadsEquivalently site start (candidate_file c)
    → AreReadEquivalently site start live → AreReadEquivalently site start (m ∷ live)
loaded_alike site start live m c name path alike others l (inl e) =
    subst (ReadsEquivalently site start) (same_file m c name path ∙ ap file_of (sym e)) alike
loaded_alike site start live m c name path alike others l (inr a) = others l a

alike_after : (site : Site) (cs : List Candidate) (start : Environment) (live : List Module) (todo : List Move) → LoadsAreOf site cs start todo
    → AreReadEquivalently site start live → AreReadEquivalently site start (live_after live todo)
alike_after site cs start live [] loads alike = alike
alike_after site cs start live (Loads m ∷ todo) ((c, among, name, path, agrees, reads), loads) alike =
    alike_after site cs start (m ∷ live) todo loads (loaded_alike site start live m c name path reads alike)
alike_after site cs start live (Unloads m ∷ todo) loads alike =
    alike_after site cs start (without_live m.name live) todo loads (left_alike site start live m.name alike)

-- ---- records

is_move : (m : Move) → is_changing (mode_of m) ≡ true
is_move (Loads m) = refl
is_move (Unloads m) = refl

-- what the move of a certified module has of its records
pub record IsMoveOf (c : Candidate) (m : Move) : Type 0 where
  pub undoes : UndoEquivalently (module_of_move m).records c.records
  pub loads : mode_of m ≡ load → LoadEquivalently c.records (module_of_move m).records

move_records : files.OneOutcome → DeterministicRecordsAreAll → (site : Site) (ms : List Candidate) (live : List Module) (start old : Environment) (m : Move) (c : Candidate) → AreDeterministic site ms
    → AreLayered ms start live old → IsCertified ms c → IsFreeOf live c → ReadsEquivalently site start (candidate_file c) → c.name ≡ (module_of_move m).name → c.path ≡ (module_of_move m).path
    → IsFrom (over_site site) m old → IsMoveOf c m
move_records one law site ms live start old m c all layered k free alike name path (ran, left, is, before, mode) =
    let same = same_file (module_of_move m) c name path in
    let now = reads_as_start one site ms live start old c all layered k free alike in
    let found = law site (file_of (module_of_move m)) c.records ran left
    (subst (λ (f : SiteModule). HasDeterministicRecords site f c.records) same (certain_records site ms c all k))
    (ap is_changing mode ∙ is_move m)
    (subst (ReadsEquivalently site left.context.before) same (subst (λ (e : Environment). ReadsEquivalently site e (candidate_file c)) (sym before) now)) in
    record {
      undoes = subst (λ (rs : List Record). UndoEquivalently rs c.records) (sym is) found.0;
      loads = λ l. subst (LoadEquivalently c.records) (sym is) (found.1 (mode ∙ l));
    }

-- ---- conflicts

none_in_conflict : EntriesHaveConflicts → (start old : Environment) (live : List Module) (m : Module)
    (first : List Entry) → loaded_in start ≡ Some first → IsStartWith (uses_by live) start live old
    → IsAdmitted (Loads m) old → (n : Module) → IsAmong n live → in_conflict m n ≡ false
none_in_conflict conflicts start old live m first begin over (xs, read, none) =
    conflicts first live m (subst (λ (ys : List Entry). list_any (in_conflict_with_entry m) ys ≡ false)
    (same_list xs (entries_over first live) (sym read ∙ over.entries first begin)) (no_conflict m xs none))

-- one that is loaded is free of the live ones
loaded_free : (first entries : List Entry) (live : List Module) (m : Module) (c : Candidate) → c.name ≡ m.name → entries ≡ entries_over first live → has m.name (names_of entries) ≡ false
    → ((n : Module) → IsAmong n live → in_conflict m n ≡ false) → IsFreeOf live c
loaded_free first entries live m c name same absent none n a =
    let other = not_named m.name first live (subst (λ (xs : List Entry). has m.name (names_of xs) ≡ false) same absent) n a in
    inr (ap (λ (t : Text). bytes_eq t n.name) name ∙ other, (λ i. list_any (λ (k : Text). means k (name i)) (conflict_names n.records)) ∙ or_right (names_in_conflict m n) (names_in_conflict n m) (none n a))

-- ---- moves

undone : files.OneOutcome → DeterministicRecordsAreAll → (site : Site) (ms : List Candidate) (live : List Module) (start old : Environment) (m : Module) → AreDeterministic site ms
    → AreLayered ms start live old → AreReadEquivalently site start live → IsFrom (over_site site) (Unloads m) old → IsNew start (Unloads m) → Fits (Unloads m) old → Undoes live m
undone one law site ms live start old m all layered alike from new fits =
    let l = of_live (uses_by live) start old live m layered.begins.order.loaded layered.order layered.start_with_live new fits in
    let among = named_among m.name l.loaded live l.found in
    let c = live_certified ms live l.loaded layered.together among in
    let reads : ReadsEquivalently site start (candidate_file c.certain) = subst (ReadsEquivalently site start) (sym (same_file l.loaded c.certain c.name c.path)) (alike l.loaded among) in
    let now = move_records one law site ms live start old (Unloads m) c.certain all layered c.certified (live_free ms live l.loaded c.certain c.name c.path layered.together among) reads
    (c.name ∙ sym l.name) (c.path ∙ sym l.path) from in
    record {
      loaded = l.loaded;
      found = l.found;
      alike = now.undoes ∙ sym c.alike;
    }

same_env : (m : Move) (old a b : Environment) → moved m old ≡ Ok a → moved m old ≡ Ok b → b ≡ a
same_env m old a b h k = let q : Ok b ≡ Ok a = sym k ∙ h in cc

are_certified : files.OneOutcome → CertifiedAreExact → EntriesHaveConflicts → CertifiedMovesPreserve → DeterministicRecordsAreAll
    → (site : Site) (ms : List Candidate) (live : List Module) (start old new : Environment) (todo : List Move) → AreDeterministic site ms
    → AreLayered ms start live old → AreReadEquivalently site start live → AreNew start todo
    → LoadsAreOf site (certified ms) start todo → TracedReach (over_site site) todo old new → MovesReach todo old new
    → AreCertified ms start live todo
are_certified one exact conflicts preserve law site ms live start old new [] all layered alike news loads traces reach = tt
are_certified one exact conflicts preserve law site ms live start old new (Loads m ∷ todo) all layered alike
    news ((c, among, name, path, agrees, reads), loads) ((admitted, from), (other, made, traces)) (fits, (mid, move, reach)) =
    let first = list_in_order start layered.begins.order.loaded in
    let certain : IsCertified ms c = (exact ms c).0 among in
    let free = none_in_conflict conflicts start old live m first.0 first.1 layered.start_with_live admitted in
    let listed = same_list fits.0 (entries_over first.0 live) (sym fits.1 ∙ layered.start_with_live.entries first.0 first.1) in
    let now = move_records one law site ms live start old (Loads m) c all layered certain (loaded_free first.0 fits.0 live m c name listed fits.2 free) reads name path from in
    let is_certain : IsAsCertified ms m = record {
      certain = c;
      certified = certain;
      name = name;
      path = path;
      alike = now.undoes;
      returns = (now.loads refl).returns;
      absent = (now.loads refl).absent;
      conflicts = (now.loads refl).conflicts;
    } in
    let agreeing : AgreesWith (used_by m.records) start = record {
      loaded = agrees.loaded;
      uses = λ v x u. agrees.uses v x (used_alike m.records c.records now.undoes (now.loads refl).absent (v, x) u);
    } in
    let h = preserve ms start old mid live (Loads m ∷ []) layered (is_certain, agreeing, free, tt) (fits, (mid, move, refl)) in (
      is_certain,
      agreeing,
      free,
      are_certified one exact conflicts preserve law site ms (m ∷ live) start mid new todo all h.0 (loaded_alike site start live m c name path reads alike) news.1 loads
          (subst (λ (e : Environment). TracedReach (over_site site) todo e new) (same_env (Loads m) old mid other move made) traces) reach,
    )
are_certified one exact conflicts preserve law site ms live start old new (Unloads m ∷ todo) all layered alike
    news loads ((admitted, from), (other, made, traces)) (fits, (mid, move, reach)) =
    let u = undone one law site ms live start old m all layered alike from news.0 fits in
    let h = preserve ms start old mid live (Unloads m ∷ []) layered (u, tt) (fits, (mid, move, refl)) in (
      u,
      are_certified one exact conflicts preserve law site ms (without_live m.name live) start mid new todo all h.0 (left_alike site start live m.name alike) news.1 loads
          (subst (λ (e : Environment). TracedReach (over_site site) todo e new) (same_env (Unloads m) old mid other move made) traces) reach,
    )

-- ---- commands

pub site_commands_return : files.OneOutcome → StepsReach → CertifiedAreExact → EntriesHaveConflicts → CertifiedMovesPreserve → DeterministicRecordsAreAll → SiteCommandsReturn
site_commands_return one leads exact conflicts preserve law site ms shell start e live action d all layered alike done news loads =
    let s = in_shell (over_site site) shell in
    let reach = leads s e action d done in
    let h = preserve ms start e d.env live d.moves layered
    (are_certified one exact conflicts preserve law site ms live start e d.env d.moves all layered alike news loads
    (any_shell (over_site site) shell d.moves e d.env (traced s e action d done)) reach) reach in
    (h.0, alike_after site (certified ms) start live d.moves loads alike, h.1)

-- ---- sessions

front_session : (s : RequestContext) (e : Environment) (rs : List Request) (before after : List Response) → Session s e rs (before ++ after) → (qs : List Request) × Session s e qs before
front_session s e rs [] after h = ([], tt)
front_session s e [] (o ∷ before) after h = absurd h
front_session s e (r ∷ rs) (o ∷ before) after h =
    let p = front_session s (env_after e o) rs before after h.1 in (r ∷ p.0, (h.0, p.1))

joined : (a b c : List Move) → (a ++ b) ++ c ≡ a ++ (b ++ c)
joined [] b c = refl
joined (m ∷ a) b c = ap (λ (l : List Move). m ∷ l) (joined a b c)

moves_parts : (before after : List Response) → session_moves (before ++ after) ≡ session_moves before ++ session_moves after
moves_parts [] after = refl
moves_parts (o ∷ before) after =
    ap (λ (l : List Move). moves.moves_of (outcome_of o) ++ l) (moves_parts before after)
    ∙ sym (joined (moves.moves_of (outcome_of o)) (session_moves before) (session_moves after))

front_new : (start : Environment) (ms ns : List Move) → AreNew start (ms ++ ns) → AreNew start ms
front_new start [] ns h = tt
front_new start (m ∷ ms) ns h = (h.0, front_new start ms ns h.1)

front_loads : (site : Site) (cs : List Candidate) (start : Environment) (ms ns : List Move) → LoadsAreOf site cs start (ms ++ ns) → LoadsAreOf site cs start ms
front_loads site cs start [] ns h = tt
front_loads site cs start (Loads m ∷ ms) ns h = (h.0, front_loads site cs start ms ns h.1)
front_loads site cs start (Unloads m ∷ ms) ns h = front_loads site cs start ms ns h

pub site_sessions_return : files.OneOutcome → SessionsReach → CertifiedAreExact → EntriesHaveConflicts → NoneIsLayered → CertifiedMovesPreserve → DeterministicRecordsAreAll → SiteSessionsReturn
site_sessions_return one leads exact conflicts begins preserve law site ms all start rs before after order session news loads =
    let f = front_session (over_site site) start rs before after session in
    let todo = session_moves before in
    let end = end_environment start before in
    let reach : MovesReach todo start end = leads (over_site site) start f.0 before f.1 in
    let new : AreNew start todo = front_new start todo (session_moves after) (subst (λ (l : List Move). AreNew start l) (moves_parts before after) news) in
    let of : LoadsAreOf site (certified ms) start todo = front_loads site (certified ms) start todo (session_moves after)
    (subst (λ (l : List Move). LoadsAreOf site (certified ms) start l) (moves_parts before after) loads) in
    let begin = begins ms start order in
    let h = preserve ms start start end [] todo begin
    (are_certified one exact conflicts preserve law site ms [] start start end todo all begin (λ l a. absurd a)
    new of (session_traced (over_site site) start f.0 before f.1) reach) reach in
    record { order = h.0.order; start_with_live = h.0.start_with_live; returned = h.1 }

-- any certified modules

loads_certified : CertifiedAreExact → (site : Site) (ms certain : List Candidate) (start : Environment) (todo : List Move) → ((m : Candidate) → IsAmong m certain → IsCertified ms m)
    → LoadsAreOf site certain start todo → LoadsAreOf site (certified ms) start todo
loads_certified exact site ms certain start [] each h = tt
loads_certified exact site ms certain start (Loads m ∷ todo) each ((c, among, name, path, agrees, reads), h) =
    ((c, (exact ms c).1 (each c among), name, path, agrees, reads), loads_certified exact site ms certain start todo each h)
loads_certified exact site ms certain start (Unloads m ∷ todo) each h = loads_certified exact site ms certain start todo each h

pub audits_hold : CertifiedAreExact → SiteSessionsReturn → AuditsHold
audits_hold exact returns site ms certain all each start rs before after order session news loads =
    returns site ms all start rs before after order session news
    (loads_certified exact site ms certain start (session_moves (before ++ after)) each loads)

-- The load of a certified module is accepted, or forbidden by a conflict, a prereq or a full counter.
use Rattle.std.proofs.Common.{◌≡◌, inr, Bool, true, false, not, ◌&&◌, List, [], ◌∷◌, ◌++◌, Option, Some, None, Result, Ok, Err, refl, ap, sym, ◌∙◌, subst}
use Rattle.std.specs.List.{list_any}
use Rattle.std.specs.Option.{option_map, option_or}
use Rattle.std.proofs.lemmas.Bool.{false≢true}
use Rattle.modulename.specs.ModuleName.{is_module_name, means}
use Rattle.envvars.specs.Texts.{Text, has}
use Rattle.envvars.specs.Environment.{Environment}
use Rattle.envstate.specs.loaded_list.Loaded.{Entry, names_of, loaded_in, added_loaded, added_to, can_be_added, with_loaded, with_conflicts_once, is_path, is_entry}
use Rattle.envstate.proofs.StateLemmas.{start_of, list_in_order}
use Rattle.envstate.proofs.loaded_list.LoadedEdits.{loaded_after_add}
use Rattle.shelltext.specs.declared.shell.Shell.{Shell}
use Rattle.filetree.specs.Modulefiles.{script, modulefile}
use Rattle.filetree.specs.Relations.{Is, If, Then, ◌>>◌}
use Rattle.lookup.specs.DefaultFileResults.{HasResult}
use Rattle.modulefile.specs.Records.{Record, conflict_names, prereq_groups}
use Rattle.modulefile.specs.Judgments.{RecordReason}
use Rattle.modulefile.specs.Results.{◌>>=◌}
use Rattle.modulefile.specs.Effects as modes
use Rattle.modulefile.specs.Effects.{effects, edit_outcome}
use Rattle.modulefile.specs.Moves.{Module, Loads, entry_of, entry_moved, moved}
use Rattle.modulefile.specs.Answers.{FileContext, any_loaded}
use Rattle.modulefile.specs.Files.{Ran, FileReason, RunsFile}
use Rattle.modulefile.specs.Laws as files
use Rattle.modulefile.specs.Laws.{RecordsHaveEffects, RecordsAreAllowed}
use Rattle.modulefile.proofs.Effected.{whole}
use Rattle.reversal.specs.VariableUses.{VariableUse, Untouched, Fixed, Absent, Pathed, Stacked}
use Rattle.reversal.specs.Starts.{HasVariable}
use Rattle.reversal.proofs.Frames.{effects_leave_list}
use Rattle.search.specs.Found.{FoundModule, Found}
use Rattle.requests.specs.Refusals.{refused_as, unless}
use Rattle.requests.specs.Reasons.{RequestReason, conflict_with, prereq_missing, missed, file_refused, refused_edit, still_needed_by}
use Rattle.requests.specs.Requests.{load}
use Rattle.requests.specs.Conditions.{is_met, recorded_conflict, own_conflict, missing_group, load_objection, has_lost, end_objection}
use Rattle.requests.specs.Laws as requests
use Rattle.requests.specs.Steps.{RequestContext, Done, nothing_done, with_move, continued, consistent, context_of, module_of, joins, modulepath, Finds, LoadsFound, LoadsName, Each, EndsRequest}
use Rattle.requests.specs.Sessions.{in_shell}
use Rattle.requests.proofs.Bound.{ok_of_refused_as}
use Rattle.requests.proofs.FoundText.{found_text}
use Rattle.audit_certificate.specs.RecordUses.{used_by, IsAmong, Uses, uses_by}
use Rattle.audit_certificate.specs.Candidates.{Candidate}
use Rattle.audit_certificate.specs.Certificates.{IsCertified, AgreesWith}
use Rattle.audit_certificate.specs.Laws.{AreLayered}
use Rattle.audit_certificate.proofs.AsCertified.{used_alike}
use Rattle.audit_certificate.proofs.UsedLemmas.{by_test, among_left}
use Rattle.audit_certificate.proofs.Exact.{any_some, some_any}
use Rattle.audit_laws.specs.determinism.StableInput.{asks_mode, asks_shell, is_changing, variables_read, IsSameContext, AreEquivalent}
use Rattle.audit_laws.specs.determinism.LoadedAnswers.{questions_tried}
use Rattle.audit_laws.specs.determinism.Laws.{UndoIsTested}
use Rattle.audit_laws.specs.site.Sites.{Site, over_site, ReadsEquivalently, candidate_file}
use Rattle.audit_laws.specs.site.Laws.{AreDeterministic}
use Rattle.audit_laws.proofs.site.Evaluations.{evaluated}
use Rattle.audit_laws.specs.returns.Loads.{IsFullCounter, MayForbidLoad, IsAcceptedOrForbidden}
use Rattle.audit_laws.specs.returns.Laws.{LoadsAreAccepted, ReadsAreOfStart}
use Rattle.audit_laws.proofs.site.Chosen.{loaded_by, chosen_alike, all_loaded}
use Rattle.audit_laws.proofs.site.Covered.{matched, is_way, are_tried, in_way}
use Rattle.audit_laws.proofs.site.LiveReads.{certain_records, reads_as_start}
use Rattle.audit_laws.proofs.returns.UnloadEffects.{CanRead, read_again}
use Rattle.audit_laws.proofs.returns.LoadRuns.{CanReadUsed, LoadsInto, LoadsFile, accepted, full, files_load, recorded}
use Rattle.audit_laws.proofs.returns.LoadEntry.{entry_written, site_path}
use Rattle.audit_laws.proofs.returns.PrereqWords.{records_name_some}
use Rattle.audit_laws.proofs.returns.Unloads.{if_yes, none_found}

-- the laws that this rests on
pub record Laws : Type 0 where
  pub some : files.SomeOutcome
  pub allows : RecordsAreAllowed
  pub effects : RecordsHaveEffects
  pub outcome : requests.OneOutcome
  pub tested : UndoIsTested

-- ---- stacks that can be read

read_over : (u : VariableUse) (start e : Environment) (w : Text) (live : List Module) → HasVariable u start w live e → CanRead start w → CanRead e w
read_over Untouched start e w live h r = read_again start e w h.stack r
read_over (Fixed value) start e w live h r = read_again start e w h.stack r
read_over Absent start e w live h r = read_again start e w h.stack r
read_over (Pathed delim) start e w live h r = read_again start e w h.stack r
read_over Stacked start e w live h r = (_, h.state)

start_read : (rs : List Record) (start : Environment) (w : Text) → AgreesWith (used_by rs) start → Uses rs w Stacked → CanRead start w
start_read rs start w agrees u =
    let xs = list_in_order start agrees.loaded in
    let s = start_of (names_of xs.0) start w xs.2.names (agrees.uses w Stacked u xs.0 xs.1) in (s.0, s.1.found)

-- ---- the evaluation of the file

same_script : (s : RequestContext) (path a b : Text) → modulefile (s.files path) ≡ script a → modulefile (s.files path) ≡ script b → a ≡ b
same_script s path a b h k = let q : script a ≡ script b = sym h ∙ k in cc

pub found_script : (s : RequestContext) (e : Environment) (name : Text) (m : FoundModule) → Finds s e name (Ok m) → modulefile (s.files m.path) ≡ script m.text
found_script s e name m h =
    found_text (HasResult s.limits) s.files s.listings (modulepath e) name m
    (subst (Found (HasResult s.limits) s.files s.listings (modulepath e) name) (ok_of_refused_as missed h.0 m (sym h.2)) h.1)

-- every outcome of the file is accepted, or a counter is full
abbrev pub AllLoad : Site → FileContext → Text → Type 0
AllLoad site d text = (rs : List Record) × ((o : Result Ran FileReason) → RunsFile site.limits d text o → LoadsFile rs o)

pub file_loads : Laws → (site : Site) (ms : List Candidate) (shell : Shell) (live : List Module) (start : Environment) (c : Candidate) (d : FileContext) (text : Text)
    → AreDeterministic site ms → AreLayered ms start live d.before → IsCertified ms c → AgreesWith (used_by c.records) start → ReadsEquivalently site d.before (candidate_file c)
    → d.mode ≡ modes.load → d.name ≡ c.name → d.path ≡ c.path → modulefile (site.files c.path) ≡ script text → AllLoad site d text
file_loads laws site ms shell live start c d text all layered certain agrees now mode name path file =
    let m = candidate_file c in
    let p = certain_records site ms c all certain in
    let asked = p.runs.first.asked in
    let questions = questions_tried asked in
    let loaded = d.loaded in
    let changing : is_changing d.mode ≡ true = ap is_changing mode in
    let found = matched (asks_mode asked) (asks_shell asked) d.mode d.in_switch d.shell (loaded_by loaded questions) changing in
    let way = found.1 in
    let there = in_way laws.tested site m p.runs found.0 p.evaluated p.deterministic
    (is_way (asks_mode asked) (asks_shell asked) d.mode d.in_switch d.shell questions loaded found.0 way) in
    let a = evaluated site found.0 m there.ran there.evaluated in
    let same_way : IsSameContext there.ran.asked a.context d = record {
      mode = λ t. sym (a.mode ∙ way.mode (there.of_mode t));
      in_switch = λ t. sym (a.in_switch ∙ way.in_switch (there.of_mode t));
      shell = λ t. sym (a.shell ∙ way.shell (there.of_shell t));
      loaded = all_loaded (λ names. any_loaded names loaded ≡ any_loaded names a.context.loaded) there.ran.records there.ran.asked there.rested (λ n ns i.
          sym (ap (any_loaded (n ∷ ns)) (a.loaded ∙ way.with_loaded)
          ∙ chosen_alike loaded questions n ns (subst (IsAmong (n ∷ ns)) (are_tried site m p.runs p.evaluated p.deterministic) (there.of_loaded (n ∷ ns) i))));
    } in
    let values : AreEquivalent (variables_read there.ran.asked) a.context.before d.before =
    subst (λ (e : Environment). AreEquivalent (variables_read there.ran.asked) e d.before) (sym a.before)
    (λ v h. now v (record { runs = p.runs; evaluated = p.evaluated; read = there.reads v h })) in
    let absent = (there.loads (way.loads mode)).absent in
    let stacks : CanReadUsed d.before there.ran.records = λ w f u.
    let used : Uses c.records w Stacked = subst (λ (rs : List Record). Uses rs w Stacked) (sym p.records)
    (used_alike there.ran.records p.runs.first.records there.undoes absent (w, Stacked) u) in
    read_over (uses_by live w) start d.before w live (layered.start_with_live.variables w f) (start_read c.records start w agrees used) in
    let into : LoadsInto d there.ran.records = record {
      mode = mode;
      spelled = ap is_module_name name ∙ (all c certain.listed).of_site.there.below.spelled;
      allowed = laws.allows site.limits a.context a.text there.ran a.runs;
      stacks = stacks;
    } in
    let same_text : a.text ≡ text = same_script (over_site site) c.path a.text text a.file file in (
      there.ran.records,
      λ o runs_so. files_load site.limits a.context d a.text there.ran o a.runs
          (record { stable = there.rested; first_mode = ap is_changing a.mode ∙ way.changing; second_mode = changing; same = same_way; values = values })
          into (name ∙ sym a.named) (path ∙ sym a.at_path) (subst (λ (t : Text). RunsFile site.limits d t o) (sym same_text) runs_so),
    )

-- ---- the move

-- a module whose entry can be written joins the loaded list at its end
record JoinsList (m : Module) (old : Environment) (xs : List Entry) : Type 0 where
  new : Environment
  move : moved (Loads m) old ≡ Ok new
  list : loaded_in new ≡ Some (xs ++ with_conflicts_once (entry_of m) ∷ [])

joins_list : (m : Module) (old mid : Environment) (xs : List Entry) → loaded_in old ≡ Some xs → effects modes.load m.name m.records old ≡ Ok mid → is_entry (entry_of m) ≡ true
    → has m.name (names_of xs) ≡ false → JoinsList m old xs
joins_list m old mid xs list made written absent =
    let here : loaded_in mid ≡ Some xs = effects_leave_list modes.load m.name m.records old mid made ∙ list in
    let new = with_loaded mid (xs ++ with_conflicts_once (entry_of m) ∷ []) in
    let can : can_be_added xs (entry_of m) ≡ true = rw (written, absent) refl in
    let added : added_loaded mid (entry_of m) ≡ Ok new = ap (added_to mid (entry_of m)) here ∙ rw can refl in
    record {
      new = new;
      move = whole (effects modes.load m.name m.records old) (entry_moved (Loads m)) mid new made (ap edit_outcome added);
      list = loaded_after_add mid new (entry_of m) xs here added;
    }

-- ---- how the load of the name ends

pub data LoadEnd (before : Done) (xs : List Entry) : Result Done RequestReason → Type 0 where
  same : LoadEnd before xs (Ok before)
  loads : (d : Done) (y : Entry) → loaded_in d.env ≡ Some (xs ++ y ∷ []) → has y.name (names_of xs) ≡ false → LoadEnd before xs (Ok d)
  forbidden : (reason : RequestReason) → MayForbidLoad reason → LoadEnd before xs (Err reason)

objection_forbids : (a b : Option Entry) (c : Option (List Text)) (reason : RequestReason)
    → option_or (option_map (λ x. conflict_with x.name) a) (option_or (option_map (λ x. conflict_with x.name) b) (option_map prereq_missing c)) ≡ Some reason → MayForbidLoad reason
objection_forbids (Some x) b c reason h = let e : conflict_with x.name ≡ reason = cc in subst MayForbidLoad e tt
objection_forbids None (Some x) c reason h = let e : conflict_with x.name ≡ reason = cc in subst MayForbidLoad e tt
objection_forbids None None (Some names) reason h = let e : prereq_missing names ≡ reason = cc in subst MayForbidLoad e tt
objection_forbids None None None reason h = absurd (cc)

-- the module joins, unless something forbids it
joins_end : (before : Done) (xs : List Entry) (m : Module) (o : Option RequestReason) (cont : Result Done RequestReason) (done : Done) (y : Entry) → load_objection m.name m.records xs ≡ o
    → cont ≡ Ok done → loaded_in done.env ≡ Some (xs ++ y ∷ []) → has y.name (names_of xs) ≡ false → LoadEnd before xs (unless o cont)
joins_end before xs m None cont done y h k list absent = subst (LoadEnd before xs) (sym k) (loads done y list absent)
joins_end before xs m (Some reason) cont done y h k list absent =
    forbidden reason (objection_forbids (recorded_conflict m.name xs) (own_conflict (conflict_names m.records) xs) (missing_group (prereq_groups m.records) xs) reason h)

if_no : {A R : Type 0} (b : Bool) (Yes No : Result A R → Type 0) (o : Result A R) → b ≡ false → No o → If b Yes No o
if_no true Yes No o h n = absurd (false≢true (sym h))
if_no false Yes No o h n = n

-- the step of the name
pub record NameLoads (s : RequestContext) (in_switch : Bool) (name : Text) (before : Done) (xs : List Entry) : Type 0 where
  pub result : Result Done RequestReason
  pub step : LoadsName s in_switch name before result
  pub ends_so : LoadEnd before xs result

abbrev pub load_context : RequestContext → Bool → Text → FoundModule → List Entry → Environment → FileContext
load_context s in_switch name m xs e = context_of s modes.load in_switch name m.name m.path xs e

-- the step of the module that was found
pub record FoundLoads (s : RequestContext) (in_switch : Bool) (name : Text) (before : Done) (xs : List Entry) (m : FoundModule) : Type 0 where
  pub result : Result Done RequestReason
  pub step : LoadsFound s in_switch name before xs m result
  pub ends_so : LoadEnd before xs result

evaluated_loads : Laws → (s : RequestContext) (in_switch : Bool) (name : Text) (before : Done) (xs : List Entry) (m : FoundModule) (rs : List Record) (o : Result Ran FileReason)
    → loaded_in before.env ≡ Some xs → is_module_name m.name ≡ true → is_path m.path ≡ true → has m.name (names_of xs) ≡ false
    → RunsFile s.limits (load_context s in_switch name m xs before.env) m.text o → LoadsFile rs o → FoundLoads s in_switch name before xs m
evaluated_loads laws s in_switch name before xs m rs o list spelled path absent other (accepted ran records) =
    let c = load_context s in_switch name m xs before.env in
    let n : Module = module_of m.name m.path ran in
    let commands = recorded s.limits c m.text ran other in
    let written = entry_written n spelled path (records_name_some commands.0 ran.records commands.1) (laws.allows s.limits c m.text ran other) in
    let j = joins_list n before.env ran.env xs list (laws.effects s.limits c m.text ran other) written absent in
    let done : Done = with_move before (Loads n) ran.messages j.new in
    let went : continued before (Loads n) ran.messages ≡ Ok done =
    ap (λ (r : Result Environment RecordReason). refused_as refused_edit r >>= (λ d. Ok (with_move before (Loads n) ran.messages d))) j.move in
    record {
      result = joins before xs n ran.messages;
      step = if_no (has m.name (names_of xs)) (Is (Ok before)) _ (joins before xs n ran.messages) absent (Ok ran, (Ok ran, other, refl), refl);
      ends_so = joins_end before xs n (load_objection m.name ran.records xs) (continued before (Loads n) ran.messages) done (with_conflicts_once (entry_of n)) refl went j.list absent;
    }
evaluated_loads laws s in_switch name before xs m rs o list spelled path absent other (full v reason stop) =
    record {
      result = Err (file_refused reason);
      step = if_no (has m.name (names_of xs)) (Is (Ok before)) _ (Err (file_refused reason)) absent (Err (file_refused reason), (Err reason, other, refl), refl);
      ends_so = forbidden (file_refused reason) (subst IsFullCounter (sym stop) (v, refl));
    }

pub found_loads : Laws → (site : Site) (shell : Shell) (in_switch : Bool) (name : Text) (before : Done) (xs : List Entry) (m : FoundModule) → loaded_in before.env ≡ Some xs → is_module_name m.name ≡ true → is_path m.path ≡ true
    → AllLoad site (load_context (in_shell (over_site site) shell) in_switch name m xs before.env) m.text → FoundLoads (in_shell (over_site site) shell) in_switch name before xs m
found_loads laws site shell in_switch name before xs m list spelled path each = by_test (has m.name (names_of xs)) _
    (λ t. record {
      result = Ok before;
      step = if_yes (has m.name (names_of xs)) (Is (Ok before)) _ (Ok before) t refl;
      ends_so = same;
    })
    (λ f. let s = in_shell (over_site site) shell in
    let o = laws.some site.limits (load_context s in_switch name m xs before.env) m.text in
    evaluated_loads laws s in_switch name before xs m each.0 o.0 list spelled path f o.1 (each.1 o.0 o.1))

pub name_loads : (s : RequestContext) (in_switch : Bool) (name : Text) (before : Done) (xs : List Entry) (m : FoundModule) → loaded_in before.env ≡ Some xs → Finds s before.env name (Ok m)
    → FoundLoads s in_switch name before xs m → NameLoads s in_switch name before xs
name_loads s in_switch name before xs m list finds k = by_test (has name (names_of xs)) _
    (λ t. record {
      result = Ok before;
      step = (Ok xs, sym (ap consistent list), if_yes (has name (names_of xs)) (Is (Ok before)) _ (Ok before) t refl);
      ends_so = same;
    })
    (λ f. record {
      result = k.result;
      step = (
        Ok xs,
        sym (ap consistent list),
        if_no (has name (names_of xs)) (Is (Ok before)) (Finds s before.env name >> LoadsFound s in_switch name before xs) k.result f (Ok m, finds, k.step),
      );
      ends_so = k.ends_so;
    })

-- ---- no module loses what it needs

met_more : (xs : List Entry) (y : Entry) (group : List Text) → is_met xs group ≡ true → is_met (xs ++ y ∷ []) group ≡ true
met_more xs y group h =
    let n = any_some (λ (name : Text). list_any (λ x. means name x.name) xs) group h in
    let x = any_some (λ (x : Entry). means n.0 x.name) xs n.2 in
    some_any (λ (name : Text). list_any (λ z. means name z.name) (xs ++ y ∷ [])) group n.0 n.1
    (some_any (λ (z : Entry). means n.0 z.name) (xs ++ y ∷ []) x.0 (among_left x.0 xs (y ∷ []) x.1) x.2)

none_lost : (before after : List Entry) (groups : List (List Text)) → ((group : List Text) → is_met before group ≡ true → is_met after group ≡ true)
    → list_any (λ group. is_met before group && not (is_met after group)) groups ≡ false
none_lost before after [] h = refl
none_lost before after (group ∷ groups) h = by_test (is_met before group) _
    (λ t. let now = h group t in rw (t, now) (none_lost before after groups h))
    (λ f. rw f (none_lost before after groups h))

and_no : (a b : Bool) → b ≡ false → (a && b) ≡ false
and_no true b h = h
and_no false b h = refl

no_objection : (before after : List Entry) → ((x : Entry) → IsAmong x after → has_lost before after x ≡ false) → end_objection before after ≡ None
no_objection before after h = ap (option_map (λ x. still_needed_by x.name)) (none_found (has_lost before after) after h)

unchanged_needs : (xs : List Entry) → end_objection xs xs ≡ None
unchanged_needs xs = no_objection xs xs (λ x a. and_no (has x.name (names_of xs)) _ (none_lost xs xs x.prereqs (λ group h. h)))

more_needs : (xs : List Entry) (y : Entry) → has y.name (names_of xs) ≡ false → end_objection xs (xs ++ y ∷ []) ≡ None
more_needs xs y absent = no_objection xs (xs ++ y ∷ []) (λ x a. and_no (has x.name (names_of xs)) _ (none_lost xs (xs ++ y ∷ []) x.prereqs (met_more xs y)))

-- ---- the request

-- the request has an outcome that is accepted or forbidden so
record LoadsSo (s : RequestContext) (name : Text) (e : Environment) : Type 0 where
  outcome : Result Done RequestReason
  ends_well : IsAcceptedOrForbidden outcome
  step : Then (Is (consistent (loaded_in e))) (λ before. Then (Each (LoadsName s false) (name ∷ []) (nothing_done e)) (EndsRequest before)) outcome

accepted_so : (s : RequestContext) (name : Text) (e : Environment) (xs after : List Entry) (d : Done) → loaded_in e ≡ Some xs → LoadsName s false name (nothing_done e) (Ok d)
    → loaded_in d.env ≡ Some after → end_objection xs after ≡ None → LoadsSo s name e
accepted_so s name e xs after d list step now none = record {
  outcome = Ok d;
  ends_well = tt;
  step = (
    Ok xs,
    sym (ap consistent list),
    (Ok d, (Ok d, step, refl), (Ok after, sym (ap consistent now), sym (ap (λ (o : Option RequestReason). unless o (Ok d)) none))),
  );
}

ends_load : (s : RequestContext) (name : Text) (e : Environment) (xs : List Entry) (r : Result Done RequestReason) → loaded_in e ≡ Some xs → LoadsName s false name (nothing_done e) r
    → LoadEnd (nothing_done e) xs r → LoadsSo s name e
ends_load s name e xs r list step same = accepted_so s name e xs xs (nothing_done e) list step list (unchanged_needs xs)
ends_load s name e xs r list step (loads d y now absent) = accepted_so s name e xs (xs ++ y ∷ []) d list step now (more_needs xs y absent)
ends_load s name e xs r list step (forbidden reason may) = record {
  outcome = Err reason;
  ends_well = may;
  step = (Ok xs, sym (ap consistent list), (Err reason, (Err reason, step, refl), refl));
}

pub loads_are_accepted : Laws → LoadsAreAccepted
loads_are_accepted laws site ms shell start e live c name m o all layered certain agrees now finds same_name same_path step =
    let s = in_shell (over_site site) shell in
    let xs = list_in_order e layered.order.loaded in
    let of = (all c certain.listed).of_site in
    let spelled : is_module_name m.name ≡ true = ap is_module_name same_name ∙ of.there.below.spelled in
    let path : is_path m.path ≡ true = ap is_path same_path ∙ site_path site (candidate_file c) of in
    let file : modulefile (site.files c.path) ≡ script m.text = subst (λ (t : Text). modulefile (site.files t) ≡ script m.text) same_path (found_script s e name m finds) in
    let each = file_loads laws site ms shell live start c (load_context s false name m xs.0 e) m.text all layered certain agrees now refl same_name same_path file in
    let k = name_loads s false name (nothing_done e) xs.0 m xs.1 finds (found_loads laws site shell false name (nothing_done e) xs.0 m xs.1 spelled path each) in
    let whole_step = ends_load s name e xs.0 k.result xs.1 k.step k.ends_so in
    subst IsAcceptedOrForbidden (sym (laws.outcome s e (load (name ∷ [])) o whole_step.outcome step whole_step.step)) whole_step.ends_well

pub reads_are_of_start : files.OneOutcome → ReadsAreOfStart
reads_are_of_start one site ms start e live c all layered certain alike free =
    reads_as_start one site ms live start e c all layered certain (λ n a. inr (free n a)) alike

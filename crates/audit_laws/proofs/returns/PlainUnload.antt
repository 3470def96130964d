-- The laws of plain modules, without a site.
use Rattle.std.proofs.Common.{◌≡◌, inl, inr, Bool, List, [], ◌∷◌, Some, Ok, Err, refl, ap, sym, ◌∙◌, subst}
use Rattle.envvars.specs.Texts.{Text}
use Rattle.envvars.specs.Environment.{Environment}
use Rattle.envstate.specs.loaded_list.Loaded.{Entry, loaded_in}
use Rattle.filetree.specs.Modulefiles.{script, modulefile}
use Rattle.modulefile.specs.Files.{Ran, RunsFile, IsSameOrRefused}
use Rattle.modulefile.specs.Laws.{RecordsAreAllowed, PlainFilesAgree}
use Rattle.modulefile.specs.Moves.{Module, Move, Loads, Unloads}
use Rattle.modulefile.specs.Records.{Record}
use Rattle.reversal.specs.VariableUses.{VariableUse, Stacked, IsUsedSo, AllSuit, use_by}
use Rattle.reversal.specs.Live.{entries_over}
use Rattle.reversal.specs.Undone.{undo_of}
use Rattle.reversal.specs.Runs.{live_named, without_live, live_after, AreReversibleTogether}
use Rattle.reversal.specs.Laws.{Holds, MovesPreserve}
use Rattle.shelltext.specs.declared.shell.Shell.{Shell}
use Rattle.requests.specs.Laws as requests
use Rattle.requests.specs.Requests.{Request}
use Rattle.requests.specs.Steps.{RequestContext, Done}
use Rattle.requests.specs.Sessions.{Response, accepted, refused, given_up, IsResponse, in_shell}
use Rattle.requests.specs.PlainRuns.{HasEvaluatedTo, IsPlain, JudgedIsPlain}
use Rattle.requests.specs.JudgedRuns.{IsJudgedPlain}
use Rattle.requests.specs.hand_changes.HandChanges.{changed, start_after}
use Rattle.requests.specs.hand_changes.Events.{Event, act, by_hand, moves_of, EventsReachWhile}
use Rattle.requests.specs.hand_changes.Laws.{response_moves, answered_moves, ResponseMakes, SessionsAndHandsReturn}
use Rattle.audit_certificate.specs.RecordUses.{used_by, IsAmong, Uses}
use Rattle.audit_certificate.proofs.UsedLemmas.{by_cases, cons_either}
use Rattle.audit_laws.specs.returns.Files.{leaving}
use Rattle.audit_laws.specs.returns.Unloads.{without_all, taken_by, IsPlainlyLoaded}
use Rattle.audit_laws.specs.returns.Laws.{AreReversibleOver, PlainUnloadsEnd, PlainUnloadsAreAccepted, PlainPurgesReturn}
use Rattle.audit_laws.specs.returns.Laws.{PlainModulesLoadPlainly, JudgedUnloadsAreAccepted}
use Rattle.audit_laws.proofs.site.Admissions.{TracedReach, traced, any_shell}
use Rattle.audit_laws.proofs.site.LiveReads.{named_among, left_among}
use Rattle.audit_laws.proofs.returns.LiveStacks.{stack_read}
use Rattle.audit_laws.proofs.returns.LiveEntries.{live_spelled, RunsAgain, unload_context, unloads_entry}
use Rattle.audit_laws.proofs.returns.RunAgain.{plain_files_run_again}
use Rattle.audit_laws.proofs.returns.UnloadEffects.{CanReadStacks, unloads_had, used_of_seen}
use Rattle.audit_laws.proofs.returns.Unloads as Ends
use Rattle.audit_laws.proofs.returns.Purges as Purges
use Rattle.audit_laws.proofs.returns.Unloads.{CanUnload, UnloadsLive, taken_live}
use Rattle.audit_laws.proofs.returns.Sessions.{live_parts}

-- what a live module uses is used so
suits_among : (uses : Text → VariableUse) (live : List Module) (l : Module) → IsAmong l live → AreReversibleTogether uses live → AllSuit uses l.records
suits_among uses [] l a fit = absurd a
suits_among uses (m ∷ live) l (inl e) fit = subst (λ (k : Module). AllSuit uses k.records) (sym e) fit.0.suits
suits_among uses (m ∷ live) l (inr a) fit = suits_among uses live l a fit.1

used_so : (uses : Text → VariableUse) (rs : List Record) (v : Text) (x : VariableUse) → AllSuit uses rs → Uses rs v x → uses v ≡ x
used_so uses [] v x s u = absurd u
used_so uses (r ∷ rs) v x s u = by_cases (cons_either (v, x) (use_by r) (used_by rs) u)
    (λ e. subst (IsUsedSo uses) e s.0.1)
    (λ k. used_so uses rs v x s.1 k)

plain_stacks : (uses : Text → VariableUse) (start e : Environment) (live : List Module) (l : Module) → AreReversibleOver uses start live e → IsAmong l live → CanReadStacks e (undo_of l.records)
plain_stacks uses start e live l over a w f u =
    stack_read start e w live (uses w) (used_so uses l.records w Stacked (suits_among uses live l a over.fit) (used_of_seen (w, Stacked) l.records u)) (over.start_with_live.variables w f)

plain_runs : RecordsAreAllowed → (uses : Text → VariableUse) (s : RequestContext) (start e : Environment) (in_switch : Bool) (live : List Module) (first : List Entry) (l : Module) (typed : Text)
    → AreReversibleOver uses start live e → IsPlainlyLoaded s l → IsAmong l live → loaded_in e ≡ Some (entries_over first live)
    → RunsAgain s (unload_context s in_switch l typed (entries_over first live) e) l
plain_runs allows uses s start e in_switch live first l typed over (ran, left, none, same) a list =
    let c = unload_context s in_switch l typed (entries_over first live) e in
    let stacks : CanReadStacks e (undo_of ran.records) = subst (λ (rs : List Record). CanReadStacks e (undo_of rs)) same (plain_stacks uses start e live l over a) in
    let had = unloads_had l.name ran.records e (live_spelled e first live l over.order.loaded list a) (allows s.limits left.context left.text ran left.runs) stacks in
    record {
      text = left.text;
      file = left.file;
      ran = leaving had.0 ran;
      runs = plain_files_run_again s.limits left.context c left.text ran had.0 left.runs none (sym left.named) (sym left.at_path) had.1;
      made = had.1;
      undoes = ap undo_of (sym same);
    }

unloads_live : RecordsAreAllowed → MovesPreserve → (uses : Text → VariableUse) (s : RequestContext) (start : Environment) (in_switch : Bool) (live : List Module) (first : List Entry) (l : Module)
    (typed : Text) (d : Done) → AreReversibleOver uses start live d.env → IsPlainlyLoaded s l → live_named l.name live ≡ Some l → loaded_in d.env ≡ Some (entries_over first live)
    → UnloadsLive s in_switch (AreReversibleOver uses start) live l typed d (entries_over first live)
unloads_live allows preserve uses s start in_switch live first l typed d over plain named list =
    let among = named_among l.name l live named in
    let u = unloads_entry s in_switch live first l typed d named among list (plain_runs allows uses s start d.env in_switch live first l typed over plain among list) in
    let h = preserve uses start d.env u.done.env live (Unloads u.unloaded ∷ []) over.begins over.order over.start_with_live over.fit (u.undoes, tt) u.reach in
    let now : AreReversibleOver uses start (without_live u.unloaded.name live) u.done.env =
    record { begins = over.begins; order = h.0.order; start_with_live = h.0.start_with_live; fit = h.1 } in
    record {
      done = u.done;
      step = u.step;
      over = subst (λ (n : Text). AreReversibleOver uses start (without_live n live) u.done.env) u.name now;
      unloaded = u.unloaded;
      name = u.name;
      moves = u.moves;
    }

-- the laws that these rest on
pub record Laws : Type 0 where
  pub allows : RecordsAreAllowed
  pub outcome : requests.OneOutcome
  pub preserve : MovesPreserve

plain_unloads : Laws → (uses : Text → VariableUse) (s : RequestContext) (start : Environment) → CanUnload s start (AreReversibleOver uses start) (IsPlainlyLoaded s)
plain_unloads laws uses s start = record {
  entries = λ live e first begins over. over.start_with_live.entries first begins;
  unloads = unloads_live laws.allows laws.preserve uses s start;
}

holds : MovesPreserve → (uses : Text → VariableUse) (start : Environment) (live : List Module) (e : Environment) → AreReversibleOver uses start live e → Holds uses start live e
holds preserve uses start live e over = (preserve uses start e e live [] over.begins over.order over.start_with_live over.fit tt refl).0

pub unloads_end : Laws → PlainUnloadsEnd
unloads_end laws uses s start e live first name names o over begins of plain step =
    Ends.ends_over (AreReversibleOver uses start) (Holds uses start) first live (without_all (name ∷ names) live) o (holds laws.preserve uses start)
    (Ends.unloads_end laws.outcome s start (AreReversibleOver uses start) (IsPlainlyLoaded s) (plain_unloads laws uses s start) e first live name names o over begins of plain step)

pub unloads_are_accepted : Laws → PlainUnloadsAreAccepted
unloads_are_accepted laws uses s start e live first name names o over begins of plain step =
    Ends.accepted_or_needed (Holds uses start) first live (without_all (name ∷ names) live) o
    (unloads_end laws uses s start e live first name names o over begins of plain step)

pub purges_return : Laws → PlainPurgesReturn
purges_return laws uses s start e live o over plain begins step =
    Purges.purges_return laws.outcome s start (AreReversibleOver uses start) (IsPlainlyLoaded s) (plain_unloads laws uses s start)
    (λ d now. (holds laws.preserve uses start [] d now).returned refl) over.begins.order.loaded e live o
    (λ l a. live_spelled e [] live l over.order.loaded (over.start_with_live.entries [] begins) a) plain over begins step

-- ---- what a plain module has loaded

same_script : (s : RequestContext) (path a b : Text) → modulefile (s.files path) ≡ script a → modulefile (s.files path) ≡ script b → a ≡ b
same_script s path a b h k = let q : script a ≡ script b = sym h ∙ k in cc

agreed : (ran other : Ran) → IsSameOrRefused ran (Ok other) → other.records ≡ ran.records
agreed ran other (inl (again, same, records)) = let q : other ≡ again = (let r : Ok other ≡ Ok again = same in cc) in ap (λ (x : Ran). x.records) q ∙ records
agreed ran other (inr (n, refusal, reason, same, stop)) = absurd (let r : Ok other ≡ Err reason = same in cc)

pub plain_modules_load_plainly : PlainFilesAgree → PlainModulesLoadPlainly
plain_modules_load_plainly law s m ran (first, plain, none) left records =
    let same = same_script s m.path left.text plain.text left.file plain.file in
    let again = law s.limits plain.context left.context plain.text first (Ok ran) plain.runs none (left.named ∙ sym plain.named) (left.at_path ∙ sym plain.at_path)
    (subst (λ (t : Text). RunsFile s.limits left.context t (Ok ran)) same left.runs) in
    (first, plain, none, records ∙ agreed first ran again)

-- ---- modules that were judged plain

-- in whatever shell
in_any_shell : (s : RequestContext) (shell : Shell) (m : Module) → IsPlainlyLoaded s m → IsPlainlyLoaded (in_shell s shell) m
in_any_shell s shell m (ran, left, none, same) =
    (ran, record { text = left.text; file = left.file; context = left.context; named = left.named; at_path = left.at_path; runs = left.runs }, none, same)

-- the module's records are those of an evaluation of its file
abbrev IsEvaluated : RequestContext → Module → Type 0
IsEvaluated s m = (ran : Ran) × HasEvaluatedTo s m.name m.path ran × (m.records ≡ ran.records)

abbrev AreEvaluated : RequestContext → List Module → Type 0
AreEvaluated s live = (m : Module) → IsAmong m live → IsEvaluated s m

-- so are those of each module that moves leave live
moves_evaluated : (s : RequestContext) (ms : List Move) (e d : Environment) (live : List Module) → AreEvaluated s live → TracedReach s ms e d → AreEvaluated s (live_after live ms)
moves_evaluated s [] e d live h k = h
moves_evaluated s (Loads l ∷ ms) e d live h ((admitted, (ran, left, same, before, by_mode)), (mid, made, rest)) =
    moves_evaluated s ms mid d (l ∷ live) (λ m a. by_cases a (λ q. subst (IsEvaluated s) (sym q) (ran, left, same)) (h m)) rest
moves_evaluated s (Unloads l ∷ ms) e d live h (from, (mid, made, rest)) =
    moves_evaluated s ms mid d (without_live l.name live) (λ m a. h m (left_among l.name m live a)) rest

response_evaluated : (s : RequestContext) (r : Request) (o : Response) (old : Environment) (live : List Module) → AreEvaluated s live → IsResponse (in_shell s r.0) old r.1 o
    → AreEvaluated s (live_after live (response_moves o))
response_evaluated s r (accepted d) old live h is = moves_evaluated s d.moves old d.env live h (any_shell s r.0 d.moves old d.env (traced (in_shell s r.0) old r.1 d is))
response_evaluated s r (refused reason) old live h is = h
response_evaluated s r (given_up number) old live h is = h

events_evaluated : (s : RequestContext) (uses : Text → VariableUse) (Allows : Environment → (Request × Response) → Type 0) (events : List (Event (Request × Response))) (live : List Module)
    (start e last_start last : Environment) → AreEvaluated s live → EventsReachWhile answered_moves (ResponseMakes s) (λ l. uses) Allows live start e events last_start last
    → AreEvaluated s (live_after live (moves_of answered_moves events))
events_evaluated s uses Allows [] live start e last_start last h reach = h
events_evaluated s uses Allows (act (r, o) ∷ events) live start e last_start last h (allowed, (next, made, rest)) =
    subst (AreEvaluated s) (live_parts live (response_moves o) (moves_of answered_moves events))
    (events_evaluated s uses Allows events (live_after live (response_moves o)) start next last_start last (response_evaluated s r o e live h made.0) rest)
events_evaluated s uses Allows (by_hand c ∷ events) live start e last_start last h (may, rest) =
    events_evaluated s uses Allows events live (start_after uses live start e c) (changed c e) last_start last h rest

judged_plain : JudgedIsPlain → (s : RequestContext) (name path : Text) → IsJudgedPlain s name path → IsPlain s name path
judged_plain law s name path j =
    let (m, found, plain) = law s j.env j.typed j.judged in
    let at = j.means m found in
    subst (λ (n : Text). IsPlain s n path) at.0 (subst (λ (p : Text). IsPlain s m.name p) at.1 plain)

loaded_plainly : PlainFilesAgree → JudgedIsPlain → (s : RequestContext) (m : Module) → IsEvaluated s m → IsJudgedPlain s m.name m.path → IsPlainlyLoaded s m
loaded_plainly law judged s m (ran, left, same) j = plain_modules_load_plainly law s m ran (judged_plain judged s m.name m.path j) left same

pub judged_unloads_are_accepted : Laws → PlainFilesAgree → JudgedIsPlain → SessionsAndHandsReturn → JudgedUnloadsAreAccepted
judged_unloads_are_accepted laws agree judged returns uses s start last_start last events live first shell name names o begin reach new reversible is begins of plain step =
    let after = returns uses s start last_start last events begin reach new reversible in
    let over : AreReversibleOver uses last_start live last = subst (λ (l : List Module). AreReversibleOver uses last_start l last) (sym is)
    (record { begins = after.0; order = after.1.order; start_with_live = after.1.start_with_live; fit = after.2 }) in
    let from = events_evaluated s uses (λ b a. Unit {0}) events [] start start last_start last (λ m a. absurd a) reach in
    let among : (m : Module) → IsAmong m (taken_by (name ∷ names) live) → IsAmong m (live_after [] (moves_of answered_moves events)) =
    λ m a. subst (IsAmong m) is (taken_live m (name ∷ names) live a) in
    unloads_are_accepted laws uses (in_shell s shell) last_start last live first name names o over begins of
    (λ m a. in_any_shell s shell m (loaded_plainly agree judged s m (from m (among m a)) (plain m a))) step

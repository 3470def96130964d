-- Unloads of names that are of live modules come to their end, where each live module can be unloaded.
use Rattle.std.proofs.Common.{◌≡◌, inl, inr, ◌⊎◌, Bool, true, false, List, [], ◌∷◌, ◌++◌, Option, Some, None, Result, Ok, Err, refl, ap, sym, ◌∙◌, subst}
use Rattle.std.proofs.Common.{find}
use Rattle.std.specs.List.{cons_option}
use Rattle.std.specs.Option.{option_map}
use Rattle.std.proofs.lemmas.Bool.{false≢true}
use Rattle.modulename.specs.ModuleName.{is_module_name, means}
use Rattle.envvars.specs.Texts.{Text}
use Rattle.envvars.specs.Environment.{Environment}
use Rattle.envstate.specs.loaded_list.Loaded.{Entry, loaded_in}
use Rattle.filetree.specs.Relations.{Is, If, Then}
use Rattle.modulefile.specs.Moves.{Module, Move, Loads, Unloads, entry_of}
use Rattle.reversal.specs.Live.{entries_over}
use Rattle.reversal.specs.Runs.{live_named, without_live, live_after}
use Rattle.requests.specs.Refusals.{unless}
use Rattle.requests.specs.Reasons.{RequestReason, missed, still_needed_by}
use Rattle.requests.specs.Requests.{unload}
use Rattle.requests.specs.Conditions.{has_lost, end_objection}
use Rattle.requests.specs.Laws as requests
use Rattle.requests.specs.Steps.{RequestContext, Done, nothing_done, consistent, UnloadsEntry, UnloadsMeant, last_meant, UnloadsName, Each, EndsRequest}
use Rattle.requests.specs.Steps.{RequestStep}
use Rattle.search.specs.Reasons.{bad_name}
use Rattle.audit_certificate.specs.RecordUses.{IsAmong}
use Rattle.audit_certificate.proofs.UsedLemmas.{by_test, by_cases}
use Rattle.audit_laws.specs.returns.Unloads.{means_one, without_meant, without_all, taken_by, AreOfLive, EndsUnlessNeeded, IsAcceptedOrNeeded, IsBack}
use Rattle.audit_laws.proofs.returns.MeantNames.{is_meant, none_meant}

-- ---- one live module

-- the entry of a live module is unloaded, and then the others are live over the start
pub record UnloadsLive (s : RequestContext) (in_switch : Bool) (IsOver : List Module → Environment → Type 0) (live : List Module) (l : Module) (typed : Text) (d : Done) (xs : List Entry) : Type 0 where
  pub done : Done
  pub step : UnloadsEntry s in_switch typed d xs (entry_of l) (Ok done)
  pub over : IsOver (without_live l.name live) done.env
  pub unloaded : Module
  pub name : unloaded.name ≡ l.name
  pub moves : done.moves ≡ d.moves ++ Unloads unloaded ∷ []

-- each live module of this kind can be unloaded
pub record CanUnload (s : RequestContext) (start : Environment) (IsOver : List Module → Environment → Type 0) (IsOf : Module → Type 0) : Type 0 where
  pub entries : (live : List Module) (e : Environment) (first : List Entry) → loaded_in start ≡ Some first → IsOver live e → loaded_in e ≡ Some (entries_over first live)
  pub unloads : (in_switch : Bool) (live : List Module) (first : List Entry) (l : Module) (typed : Text) (d : Done) → IsOver live d.env → IsOf l → live_named l.name live ≡ Some l
      → loaded_in d.env ≡ Some (entries_over first live) → UnloadsLive s in_switch IsOver live l typed d (entries_over first live)

-- a module of any kind
abbrev pub IsAny : Module → Type 0
IsAny l = Unit {0}

-- what the names take is of this kind
abbrev pub AreTakenOf : (Module → Type 0) → List Text → List Module → Type 0
AreTakenOf IsOf names live = (m : Module) → IsAmong m (taken_by names live) → IsOf m

-- so is what a name means
abbrev pub IsMeantOf : (Module → Type 0) → Text → List Module → Type 0
IsMeantOf IsOf name live = (m : Module) → find (λ x. means name x.name) live ≡ Some m → IsOf m

cons_among : (m : Module) (o : Option Module) (rest : List Module) → IsAmong m rest → IsAmong m (cons_option o rest)
cons_among m None rest a = a
cons_among m (Some x) rest a = inr a

meant_of : (IsOf : Module → Type 0) (name : Text) (names : List Text) (live : List Module) → AreTakenOf IsOf (name ∷ names) live → IsMeantOf IsOf name live
meant_of IsOf name names live of m h =
    of m (subst (λ (o : Option Module). IsAmong m (cons_option o (taken_by names (without_meant name live)))) (sym h) (inl refl))

later_of : (IsOf : Module → Type 0) (name : Text) (names : List Text) (live : List Module) → AreTakenOf IsOf (name ∷ names) live → AreTakenOf IsOf names (without_meant name live)
later_of IsOf name names live of m a = of m (cons_among m (find (λ x. means name x.name) live) (taken_by names (without_meant name live)) a)

-- the live modules after one more unload
live_after_more : (live : List Module) (ms : List Move) (m : Module) → live_after live (ms ++ Unloads m ∷ []) ≡ without_live m.name (live_after live ms)
live_after_more live [] m = refl
live_after_more live (Loads n ∷ ms) m = live_after_more (n ∷ live) ms m
live_after_more live (Unloads n ∷ ms) m = live_after_more (without_live n.name live) ms m

-- ---- one name

-- what a request has done so far: these modules are live
pub record IsPartWay (IsOver : List Module → Environment → Type 0) (before now : List Module) (d : Done) : Type 0 where
  pub over : IsOver now d.env
  pub moved : live_after before d.moves ≡ now

-- the unload of a name leaves these
pub record UnloadsOneName (s : RequestContext) (in_switch : Bool) (IsOver : List Module → Environment → Type 0) (before left : List Module) (name : Text) (d : Done) : Type 0 where
  pub done : Done
  pub step : UnloadsName s in_switch name d (Ok done)
  pub way : IsPartWay IsOver before left done

pub if_yes : {A R : Type 0} (b : Bool) (Yes No : Result A R → Type 0) (o : Result A R) → b ≡ true → Yes o → If b Yes No o
if_yes true Yes No o h y = y
if_yes false Yes No o h y = absurd (false≢true h)

-- a step whose name means this entry, or none
pub named_step : (s : RequestContext) (in_switch : Bool) (name : Text) (d done : Done) (xs : List Entry) (x : Option Entry) → loaded_in d.env ≡ Some xs → is_module_name name ≡ true
    → last_meant name xs ≡ x → UnloadsMeant s in_switch name d xs x (Ok done) → UnloadsName s in_switch name d (Ok done)
named_step s in_switch name d done xs x list spelled meant step = (
  Ok xs,
  sym (ap consistent list),
  if_yes (is_module_name name) (UnloadsMeant s in_switch name d xs (last_meant name xs)) (Is (Err (missed (bad_name name)))) (Ok done) spelled
      (subst (λ (o : Option Entry). UnloadsMeant s in_switch name d xs o (Ok done)) (sym meant) step),
)

live_name : (s : RequestContext) (in_switch : Bool) (start : Environment) (IsOver : List Module → Environment → Type 0) (IsOf : Module → Type 0) → CanUnload s start IsOver IsOf → (before now : List Module) (first : List Entry) (name : Text) (d : Done)
    → loaded_in start ≡ Some first → is_module_name name ≡ true → IsPartWay IsOver before now d → IsMeantOf IsOf name now → means_one name now ≡ true
    → UnloadsOneName s in_switch IsOver before (without_meant name now) name d
live_name s in_switch start IsOver IsOf can before now first name d begins spelled way kind t =
    let list = can.entries now d.env first begins way.over in
    let k = is_meant name first now t in
    let u = can.unloads in_switch now first k.found_module name d way.over (kind k.found_module k.newest) k.found list in
    record {
      done = u.done;
      step = named_step s in_switch name d u.done (entries_over first now) (Some (entry_of k.found_module)) list spelled k.last u.step;
      way = record {
        over = subst (λ (l : List Module). IsOver l u.done.env) (sym k.less) u.over;
        moved = ap (live_after before) u.moves ∙ (live_after_more before d.moves u.unloaded ∙ ((λ i. without_live (u.name i) (way.moved i)) ∙ sym k.less));
      };
    }

no_name : (s : RequestContext) (in_switch : Bool) (start : Environment) (IsOver : List Module → Environment → Type 0) (IsOf : Module → Type 0) → CanUnload s start IsOver IsOf → (before now : List Module) (first : List Entry) (name : Text) (d : Done)
    → loaded_in start ≡ Some first → is_module_name name ≡ true → IsPartWay IsOver before now d → means_one name now ≡ false → last_meant name first ≡ None
    → UnloadsOneName s in_switch IsOver before (without_meant name now) name d
no_name s in_switch start IsOver IsOf can before now first name d begins spelled way f none =
    let list = can.entries now d.env first begins way.over in
    let k = none_meant name first now f in
    record {
      done = d;
      step = named_step s in_switch name d d (entries_over first now) None list spelled (k.0 ∙ none) refl;
      way = subst (λ (l : List Module). IsPartWay IsOver before l d) (sym k.1) way;
    }

pub one_name : (s : RequestContext) (in_switch : Bool) (start : Environment) (IsOver : List Module → Environment → Type 0) (IsOf : Module → Type 0) → CanUnload s start IsOver IsOf → (before now : List Module) (first : List Entry) (name : Text) (d : Done)
    → loaded_in start ≡ Some first → is_module_name name ≡ true → (means_one name now ≡ true) ⊎ (last_meant name first ≡ None) → IsMeantOf IsOf name now → IsPartWay IsOver before now d
    → UnloadsOneName s in_switch IsOver before (without_meant name now) name d
one_name s in_switch start IsOver IsOf can before now first name d begins spelled of kind way = by_test (means_one name now) _
    (λ t. live_name s in_switch start IsOver IsOf can before now first name d begins spelled way kind t)
    (λ f. by_cases of
    (λ t. absurd (false≢true (sym f ∙ t)))
    (λ none. no_name s in_switch start IsOver IsOf can before now first name d begins spelled way f none))

-- ---- names

pub record UnloadsNames (s : RequestContext) (IsOver : List Module → Environment → Type 0) (before left : List Module) (names : List Text) (d : Done) : Type 0 where
  pub done : Done
  pub steps : Each (UnloadsName s false) names d (Ok done)
  pub way : IsPartWay IsOver before left done

pub each_name : (s : RequestContext) (start : Environment) (IsOver : List Module → Environment → Type 0) (IsOf : Module → Type 0) → CanUnload s start IsOver IsOf → (before now : List Module) (first : List Entry) (names : List Text) (d : Done)
    → loaded_in start ≡ Some first → AreOfLive first names now → AreTakenOf IsOf names now → IsPartWay IsOver before now d → UnloadsNames s IsOver before (without_all names now) names d
each_name s start IsOver IsOf can before now first [] d begins of kinds way = record { done = d; steps = refl; way = way }
each_name s start IsOver IsOf can before now first (name ∷ names) d begins of kinds way =
    let k = one_name s false start IsOver IsOf can before now first name d begins of.0 of.1 (meant_of IsOf name names now kinds) way in
    let r = each_name s start IsOver IsOf can before (without_meant name now) first names k.done begins of.2 (later_of IsOf name names now kinds) k.way in
    record { done = r.done; steps = (Ok k.done, k.step, r.steps); way = r.way }

-- ---- what names take

pub found_among : {X : Type 0} (p : X → Bool) (xs : List X) (x : X) → find p xs ≡ Some x → IsAmong x xs × (p x ≡ true)
found_among p [] x h = absurd (cc)
found_among {X} p (y ∷ xs) x h = by_test (p y) _
    (λ t. let k : Some y ≡ Some x = rw t at h in let e : y ≡ x = cc in (inl (sym e), subst (λ (z : X). p z ≡ true) e t))
    (λ f. let k = found_among p xs x (rw f at h) in (inr k.0, k.1))

-- it is live
either_of : (m : Module) (o : Option Module) (rest : List Module) → IsAmong m (cons_option o rest) → (o ≡ Some m) ⊎ IsAmong m rest
either_of m None rest a = inr a
either_of m (Some x) rest (inl e) = inl (ap (λ (k : Module). Some k) (sym e))
either_of m (Some x) rest (inr a) = inr a

left_live : (m : Module) (name : Text) (live : List Module) → IsAmong m (without_meant name live) → IsAmong m live
left_live m name [] a = a
left_live m name (x ∷ live) a = by_test (means name x.name) _
    (λ t. inr (rw t at a))
    (λ f. let k : (m ≡ x) ⊎ IsAmong m (without_meant name live) = rw f at a in by_cases k (λ e. inl e) (λ b. inr (left_live m name live b)))

pub taken_live : (m : Module) (names : List Text) (live : List Module) → IsAmong m (taken_by names live) → IsAmong m live
taken_live m [] live a = absurd a
taken_live m (name ∷ names) live a =
    by_cases (either_of m (find (λ x. means name x.name) live) (taken_by names (without_meant name live)) a)
    (λ h. (found_among (λ x. means name x.name) live m h).0)
    (λ k. left_live m name live (taken_live m names (without_meant name live) k))

-- ---- the request

-- all of it after the loaded modules were read
record EndsSo (s : RequestContext) (IsOver : List Module → Environment → Type 0) (e : Environment) (first : List Entry) (live left : List Module) (names : List Text) : Type 0 where
  done : Done
  over : IsOver left done.env
  moved : live_after live done.moves ≡ left
  list : loaded_in e ≡ Some (entries_over first live)
  steps : Then (Each (UnloadsName s false) names (nothing_done e)) (EndsRequest (entries_over first live))
      (unless (end_objection (entries_over first live) (entries_over first left)) (Ok done))

ends_so : (s : RequestContext) (start : Environment) (IsOver : List Module → Environment → Type 0) (IsOf : Module → Type 0) → CanUnload s start IsOver IsOf → (e : Environment) (first : List Entry) (live : List Module) (names : List Text)
    → IsOver live e → loaded_in start ≡ Some first → AreOfLive first names live → AreTakenOf IsOf names live → EndsSo s IsOver e first live (without_all names live) names
ends_so s start IsOver IsOf can e first live names over begins of kinds =
    let r = each_name s start IsOver IsOf can live live first names (nothing_done e) begins of kinds (record { over = over; moved = refl }) in
    let left = without_all names live in
    record {
      done = r.done;
      over = r.way.over;
      moved = r.way.moved;
      list = can.entries live e first begins over;
      steps = (Ok r.done, r.steps, (Ok (entries_over first left), sym (ap consistent (can.entries left r.done.env first begins r.way.over)), refl));
    }

pub unloads_end : requests.OneOutcome → (s : RequestContext) (start : Environment) (IsOver : List Module → Environment → Type 0) (IsOf : Module → Type 0) → CanUnload s start IsOver IsOf
    → (e : Environment) (first : List Entry) (live : List Module) (name : Text) (names : List Text) (o : Result Done RequestReason)
    → IsOver live e → loaded_in start ≡ Some first → AreOfLive first (name ∷ names) live → AreTakenOf IsOf (name ∷ names) live → RequestStep s e (unload (name ∷ names)) o
    → EndsUnlessNeeded IsOver first live (without_all (name ∷ names) live) o
unloads_end outcome s start IsOver IsOf can e first live name names o over begins of kinds step =
    let k = ends_so s start IsOver IsOf can e first live (name ∷ names) over begins of kinds in
    record {
      done = k.done;
      over = k.over;
      moved = k.moved;
      outcome = outcome s e (unload (name ∷ names)) o _ step (Ok (entries_over first live), sym (ap consistent k.list), k.steps);
    }

-- another way of saying what is live over the start
pub ends_over : (P Q : List Module → Environment → Type 0) (first : List Entry) (live left : List Module) (o : Result Done RequestReason)
    → ((now : List Module) (e : Environment) → P now e → Q now e) → EndsUnlessNeeded P first live left o → EndsUnlessNeeded Q first live left o
ends_over P Q first live left o f k = record { done = k.done; over = f left k.done.env k.over; moved = k.moved; outcome = k.outcome }

-- ---- what can object at the end

objected : (IsOver : List Module → Environment → Type 0) (first : List Entry) (live left : List Module) (o : Result Done RequestReason) (done : Done) (x : Option Entry)
    → find (has_lost (entries_over first live) (entries_over first left)) (entries_over first left) ≡ x → IsOver left done.env
    → live_after live done.moves ≡ left → o ≡ unless (option_map (λ y. still_needed_by y.name) x) (Ok done) → IsAcceptedOrNeeded IsOver first live left o
objected IsOver first live left o done None h over moved e = subst (IsAcceptedOrNeeded IsOver first live left) (sym e) (over, moved)
objected IsOver first live left o done (Some x) h over moved e =
    let k = found_among (has_lost (entries_over first live) (entries_over first left)) (entries_over first left) x h in
    subst (IsAcceptedOrNeeded IsOver first live left) (sym e) (x, k.0, k.1, refl)

pub accepted_or_needed : (IsOver : List Module → Environment → Type 0) (first : List Entry) (live left : List Module) (o : Result Done RequestReason)
    → EndsUnlessNeeded IsOver first live left o → IsAcceptedOrNeeded IsOver first live left o
accepted_or_needed IsOver first live left o k =
    objected IsOver first live left o k.done (find (has_lost (entries_over first live) (entries_over first left)) (entries_over first left)) refl k.over k.moved k.outcome

-- ---- back to the start

pub none_found : {X : Type 0} (p : X → Bool) (xs : List X) → ((x : X) → IsAmong x xs → p x ≡ false) → find p xs ≡ None
none_found p [] h = refl
none_found p (x ∷ xs) h = rw (h x (inl refl)) (none_found p xs (λ y a. h y (inr a)))

unopposed : (first : List Entry) (live : List Module) (done : Done) → ((x : Entry) → IsAmong x first → has_lost (entries_over first live) first x ≡ false)
    → unless (end_objection (entries_over first live) first) (Ok done) ≡ Ok done
unopposed first live done h =
    ap (λ (o : Option Entry). unless (option_map (λ x. still_needed_by x.name) o) (Ok done)) (none_found (has_lost (entries_over first live) first) first h)

-- where nothing is left live, it is the start
abbrev pub NoneIsStart : (List Module → Environment → Type 0) → Environment → Type 0
NoneIsStart IsOver start = (e : Environment) → IsOver [] e → e ≡ start

pub ends_back : (IsOver : List Module → Environment → Type 0) (start : Environment) (first : List Entry) (live left : List Module) (o : Result Done RequestReason) → NoneIsStart IsOver start
    → left ≡ [] → ((x : Entry) → IsAmong x first → has_lost (entries_over first live) first x ≡ false) → EndsUnlessNeeded IsOver first live left o → IsBack start o
ends_back IsOver start first live left o back none unneeded k = (
  k.done,
  k.outcome ∙ (ap (λ (l : List Module). unless (end_objection (entries_over first live) (entries_over first l)) (Ok k.done)) none ∙ unopposed first live k.done unneeded),
  back k.done.env (subst (λ (l : List Module). IsOver l k.done.env) none k.over),
)

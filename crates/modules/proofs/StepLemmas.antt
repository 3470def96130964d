-- A request's step, by what its parts answered.
use Rattle.std.proofs.Common.{◌≡◌, Bool, true, false, List, [], ◌∷◌, Option, Some, None, IfSome, Result, Ok, Err, refl}
use Rattle.std.proofs.Common.{sym, ap, ◌∙◌, subst}
use Rattle.envvars.specs.Texts.{Text}
use Rattle.envvars.specs.Environment.{Environment}
use Rattle.envvars.specs.Reasons.{EnvReason}
use Rattle.envstate.specs.loaded_list.Loaded.{Entry, dropped_loaded}
use Rattle.filetree.specs.Agreement.{Files, Listings, InEachPair}
use Rattle.filetree.specs.Causes.{Cause, Applies, memory, device, because}
use Rattle.tclrules.specs.declared.limits.Limits.{Limits}
use Rattle.tclrules.specs.Derivation.{EvaluationOutcome, Ended, Halted, World}
use Rattle.tclrules.specs.Plans.{Completion, Normal, Raised, Returned, Broken, Continued}
use Rattle.tclrules.specs.Oracle.{Trace}
use Rattle.filetree.specs.Relations.{If}
use Rattle.modulefile.specs.Records.{Record}
use Rattle.modulefile.specs.Judgments.{RecordReason, bad_edit, record_reason}
use Rattle.modulefile.specs.Effects.{Mode, load, unload, display, whatis, effects, and_then, permitted, edit_outcome}
use Rattle.modulefile.specs.Moves.{Module, Loads, Unloads, entry_moved}
use Rattle.modulefile.specs.Results.{◌>>=◌}
use Rattle.modulefile.specs.Calls.{CallReason}
use Rattle.modulefile.specs.Answers.{FileContext, record_outcome, records_in}
use Rattle.modulefile.specs.Files.{Ran, FileReason, RunsFile, FinishesFile}
use Rattle.search.specs.Reasons as search
use Rattle.requests.specs.Reasons.{RequestReason, missed, file_refused, refused_edit}
use Rattle.requests.specs.Refusals.{refused_as, unless, RefusedAs}
use Rattle.requests.specs.Conditions.{load_objection}
use Rattle.requests.specs.Steps.{Done, with_move, continued, joins}
use Rattle.modules.specs.declared.refusal.Refusal.{Refusal}
use Rattle.modules.specs.Answers.{GivesOrRefuses, StepAnswersOverTree, by_reason, by_search, cause_of}
use Rattle.modules.specs.declared.one_name.ReportKind.{ReportKind}
use Rattle.modules.specs.declared.one_name.ReportKind.TheVariants.{Show, Whatis}
use Rattle.modules.specs.Parts.{added, objection, report_mode}

-- a cause of one step is a cause of the whole
pub stands_as : {R : Type 0} (c : Cause R) (failed before : Type 0) (P Q : R → Type 0) → (failed → before) → ((r : R) → P r → Q r) → Applies c failed P → Applies c before Q
stands_as memory failed before P Q later then h = tt
stands_as device failed before P Q later then h = later h
stands_as (because r) failed before P Q later then h = then r h

stands_each : (c : Cause RequestReason) (agrees : Files → Listings → Type 0) (before : Type 0) (P Q : Files → Listings → RequestReason → Type 0)
    → ((files : Files) (listings : Listings) (r : RequestReason) → agrees files listings → P files listings r → Q files listings r)
    → ((files : Files) (listings : Listings) → Applies c ⊥ (P files listings)) → Applies c before (λ r. InEachPair agrees (λ files listings. Q files listings r))
stands_each memory agrees before P Q then h = tt
stands_each device agrees before P Q then h = absurd (h (λ path. None) (λ path. None))
stands_each (because r) agrees before P Q then h = λ files listings a. then files listings r a (h files listings)

-- what a call without a tree gives
pub over_tree_given : {X Y : Type 0} (agrees : Files → Listings → Type 0) (before : Type 0) (view : X → Y) (r : Result X Refusal)
    (Gave Comes : Files → Listings → Result Y RequestReason → Type 0)
    → ((files : Files) (listings : Listings) (o : Result Y RequestReason) → agrees files listings → Gave files listings o → Comes files listings o)
    → ((files : Files) (listings : Listings) → GivesOrRefuses view r (Gave files listings)) → StepAnswersOverTree agrees before view r Comes
over_tree_given agrees before view (Ok x) Gave Comes then h = λ files listings a. then files listings (Ok (view x)) a (h files listings)
over_tree_given agrees before view (Err e) Gave Comes then h =
    stands_each (cause_of e) agrees before (λ files listings r. Gave files listings (Err r)) (λ files listings r. Comes files listings (Err r))
    (λ files listings r a k. then files listings (Err r) a k) h

-- the answer of a call over a tree, for a step of the same outcomes
pub over_tree_same : {X Y : Type 0} (agrees : Files → Listings → Type 0) (failed before : Type 0) (view : X → Y) (r : Result X Refusal)
    (Trace Comes : Files → Listings → Result Y RequestReason → Type 0)
    → (failed → before) → ((files : Files) (listings : Listings) (o : Result Y RequestReason) → agrees files listings → Trace files listings o → Comes files listings o)
    → StepAnswersOverTree agrees failed view r Trace → StepAnswersOverTree agrees before view r Comes
over_tree_same agrees failed before view (Ok x) Trace Comes later then h = λ files listings a. then files listings (Ok (view x)) a (h files listings a)
over_tree_same agrees failed before view (Err e) Trace Comes later then h =
    stands_as (cause_of e) failed before _ _ later (λ r k files listings a. then files listings (Err r) a (k files listings a)) h

-- a refusal of one step is a refusal of the whole
pub over_tree_refused : {X Y V W : Type 0} (agrees : Files → Listings → Type 0) (failed before : Type 0) (view : X → Y) (view' : V → W) (e : Refusal)
    (Trace : Files → Listings → Result Y RequestReason → Type 0) (Comes : Files → Listings → Result W RequestReason → Type 0)
    → (failed → before) → ((files : Files) (listings : Listings) (r : RequestReason) → agrees files listings → Trace files listings (Err r) → Comes files listings (Err r))
    → StepAnswersOverTree agrees failed view (Err e) Trace → StepAnswersOverTree agrees before view' (Err e) Comes
over_tree_refused agrees failed before view view' e Trace Comes later then h =
    stands_as (cause_of e) failed before _ _ later (λ r k files listings a. then files listings r a (k files listings a)) h

pub if_yes : {A R : Type 0} (b : Bool) (Yes No : Result A R → Type 0) (o : Result A R) → b ≡ true → Yes o → If b Yes No o
if_yes true Yes No o e h = h
if_yes false Yes No o e h = absurd (cc)

pub if_no : {A R : Type 0} (b : Bool) (Yes No : Result A R → Type 0) (o : Result A R) → b ≡ false → No o → If b Yes No o
if_no true Yes No o e h = absurd (cc)
if_no false Yes No o e h = h

-- a search, as a part of the step
pub search_stands : (k : Cause search.FindReason) (failed : Type 0) (P : search.FindReason → Type 0)
    (Q : RequestReason → Type 0) → ((r : search.FindReason) → P r → Q (missed r)) → Applies k failed P
    → Applies (by_search k) failed Q
search_stands memory failed P Q then h = tt
search_stands device failed P Q then h = h
search_stands (because r) failed P Q then h = then r h

-- ---- a file

-- a stop, as a reason
pub run_refused : (o : Option FileReason) (Runs' : Result Ran FileReason → Type 0) → IfSome o (λ stop. Runs' (Err stop))
    → Applies (by_reason file_refused o) ⊥ (λ r. RefusedAs file_refused Runs' (Err r))
run_refused None Runs' h = tt
run_refused (Some stop) Runs' h = (Err stop, h, refl)

-- the outcome of a file that ended
pub run_ended : (Runs' : Result Ran FileReason → Type 0) (ran : Ran) → RefusedAs file_refused Runs' (Ok ran) → Runs' (Ok ran)
run_ended Runs' ran (Ok x, h, e) = let q : x ≡ ran = cc in subst (λ y. Runs' (Ok y)) q h
run_ended Runs' ran (Err r, h, e) = absurd (cc)

made_by : (c : FileContext) (trace : Trace) (ran : Ran) (rs : List Record) (x : Result Environment RecordReason) → effects c.mode c.name rs c.before ≡ x
    → (record_outcome x >>= (λ e. Ok (record { records = rs; messages = trace.messages; asked = trace.asked; env = e }))) ≡ Ok ran → effects c.mode c.name ran.records c.before ≡ Ok ran.env
made_by c trace ran rs (Err r) made h = absurd (cc)
made_by c trace ran rs (Ok e) made h =
    let made_ran : Ran = record { records = rs; messages = trace.messages; asked = trace.asked; env = e } in
    let q : made_ran ≡ ran = cc in
    subst (λ (y : Ran). effects c.mode c.name y.records c.before ≡ Ok y.env) q made

ran_by : (c : FileContext) (trace : Trace) (ran : Ran) (x : Result (List Record) CallReason)
    → (x >>= (λ rs. record_outcome (effects c.mode c.name rs c.before) >>= (λ e. Ok (record { records = rs; messages = trace.messages; asked = trace.asked; env = e })))) ≡ Ok ran
    → effects c.mode c.name ran.records c.before ≡ Ok ran.env
ran_by c trace ran (Err r) h = absurd (cc)
ran_by c trace ran (Ok rs) h = made_by c trace ran rs (effects c.mode c.name rs c.before) refl h

finished : (c : FileContext) (text : Text) (out : EvaluationOutcome Completion) (w : World) (ran : Ran)
    → FinishesFile c text out w (Ok ran) → effects c.mode c.name ran.records c.before ≡ Ok ran.env
finished c text (Ended (Normal result s)) w ran (x, made, e) = let q : x ≡ ran = cc in ran_by c w.trace ran (records_in w.trace.records) (made ∙ ap Ok q)
finished c text (Ended (Raised message s)) w ran h = absurd (cc)
finished c text (Ended (Returned result s)) w ran h = absurd h
finished c text (Ended (Broken s)) w ran h = absurd h
finished c text (Ended (Continued s)) w ran h = absurd h
finished c text (Halted halt) w ran h = absurd (cc)

-- a file that ended made the effects of its records
pub run_made : (limits : Limits) (c : FileContext) (text : Text) (ran : Ran) → RefusedAs file_refused (RunsFile limits c text) (Ok ran) → effects c.mode c.name ran.records c.before ≡ Ok ran.env
run_made limits c text ran h = let k = run_ended (RunsFile limits c text) ran h in finished c text k.0 k.1 ran k.3

permitted_same : (mode : Mode) (owner : Text) (rs : List Record) (e d : Environment) (o : Option RecordReason)
    → (effects mode owner rs e ≡ Ok d → d ≡ e) → and_then (permitted o (Ok e)) (effects mode owner rs) ≡ Ok d → d ≡ e
permitted_same mode owner rs e d None more k = more k
permitted_same mode owner rs e d (Some reason) more k = absurd (cc)

-- a report changes nothing
pub report_same : (report_kind : ReportKind) (owner : Text) (rs : List Record) (e d : Environment) → effects (report_mode report_kind) owner rs e ≡ Ok d → d ≡ e
report_same Show owner [] e d h = cc
report_same Show owner (r ∷ rs) e d h = permitted_same display owner rs e d (record_reason r) (report_same Show owner rs e d) h
report_same Whatis owner [] e d h = cc
report_same Whatis owner (r ∷ rs) e d h = permitted_same whatis owner rs e d (record_reason r) (report_same Whatis owner rs e d) h

-- ---- moves

-- an outcome, and what follows from its value
abbrev after : {A : Type 0} → (Environment → A) → Result Environment RequestReason → Result A RequestReason
after f (Ok e) = Ok (f e)
after f (Err r) = Err r

unless_after : {A : Type 0} (f : Environment → A) (o : Option RequestReason) (x y : Result Environment RequestReason) → y ≡ unless o x → after f y ≡ unless o (x >>= (λ e. Ok (f e)))
unless_after f None (Ok e) y h = ap (after f) h
unless_after f None (Err r) y h = ap (after f) h
unless_after f (Some r) x y h = ap (after f) h

module _ (d : Done) (xs : List Entry) (m : Module) (messages : List Text) (mid : Environment) (made : effects load m.name m.records d.env ≡ Ok mid) where
  joined : (y : Result Environment RequestReason) → y ≡ added xs m mid → after (with_move d (Loads m) messages) y ≡ joins d xs m messages
  joined y h =
      subst (λ z. after (with_move d (Loads m) messages) y ≡ unless (load_objection m.name m.records xs)
      (refused_as refused_edit (and_then z (entry_moved (Loads m))) >>=
      (λ e. Ok (with_move d (Loads m) messages e))))
      (sym made) (unless_after (with_move d (Loads m) messages) (load_objection m.name m.records xs) (refused_as refused_edit (entry_moved (Loads m) mid)) y h)

  pub joins_ok : (e : Environment) → Ok e ≡ added xs m mid → Ok (with_move d (Loads m) messages e) ≡ joins d xs m messages
  joins_ok e h = joined (Ok e) h

  pub joins_refused : (r : RequestReason) → Err r ≡ added xs m mid → Err r ≡ joins d xs m messages
  joins_refused r h = joined (Err r) h

-- the environment without an entry
abbrev dropped_so : Done → Module → List Text → Result Environment EnvReason → Result Done RequestReason
dropped_so d m messages (Ok e) = Ok (with_move d (Unloads m) messages e)
dropped_so d m messages (Err r) = Err (refused_edit (bad_edit r))

by_drop : (d : Done) (m : Module) (messages : List Text) (x : Result Environment EnvReason)
    → dropped_so d m messages x ≡ (refused_as refused_edit (edit_outcome x) >>= (λ e. Ok (with_move d (Unloads m) messages e)))
by_drop d m messages (Ok e) = refl
by_drop d m messages (Err r) = refl

pub unloads_so : (d : Done) (m : Module) (messages : List Text) (mid : Environment) (x : Result Environment EnvReason) → effects unload m.name m.records d.env ≡ Ok mid
    → dropped_loaded mid m.name ≡ x → dropped_so d m messages x ≡ continued d (Unloads m) messages
unloads_so d m messages mid x made h =
    subst (λ z. dropped_so d m messages x ≡ (refused_as refused_edit (and_then z (entry_moved (Unloads m))) >>= (λ e. Ok (with_move d (Unloads m) messages e)))) (sym made)
    (by_drop d m messages x ∙ ap (λ z. refused_as refused_edit (edit_outcome z) >>= (λ e. Ok (with_move d (Unloads m) messages e))) (sym h))

-- ---- more of the parts

pub edit_refused : (o : Option EnvReason) (P : EnvReason → Type 0) (Q : RequestReason → Type 0) → ((r : EnvReason) → P r → Q (refused_edit (bad_edit r))) → IfSome o P
    → Applies (by_reason (λ r. refused_edit (bad_edit r)) o) ⊥ Q
edit_refused None P Q then h = tt
edit_refused (Some r) P Q then h = then r h

pub judged : {A : Type 0} (o p : Option RequestReason) → o ≡ p → (x : Result A RequestReason) (r : RequestReason) → Err r ≡ unless {A = Unit {0}} o (Ok tt) → Err r ≡ unless p x
judged None p e x r h = absurd (cc)
judged (Some s) p e x r h = let q : r ≡ s = cc in subst (λ z. Err r ≡ unless z x) e (ap Err q)

pub objection_same : (n m : Text) (cs ds : List Text) (gs hs : List (List Text)) (xs : List Entry) → n ≡ m → cs ≡ ds → gs ≡ hs → objection n cs gs xs ≡ objection m ds hs xs
objection_same n m cs ds gs hs xs a b e =
    ap (λ y. objection y cs gs xs) a ∙ (ap (λ y. objection m y gs xs) b ∙ ap (λ y. objection m ds y xs) e)

-- What is advised with the option --auto, by what automated loads and unloads answer.
use Rattle.std.proofs.Common.{◌≡◌, Bool, true, false, List, [], Option, Some, None, Result, Ok, Err, String, string_bytes, refl, sym, ap, subst}
use Rattle.std.specs.Option.{option_map}
use Rattle.std.specs.Prelude.{IfErr, IfNone, IfOk, IfSome, is_some, unwrap_or}
use Rattle.std.specs.declared.alloc.Global.{Global}
use Rattle.std.specs.declared.vec.Vec.{Vec}
use Rattle.envvars.specs.Environment.{Environment}
use Rattle.envvars.specs.Texts.{Text, texts_in}
use Rattle.filetree.specs.Agreement.{Files, Listings, InEachPair, Narrows}
use Rattle.filetree.specs.Causes.{Applies, Cause, memory, device, because}
use Rattle.modules.specs.transient_failures.Causes.{is_transient}
use Rattle.shelltext.specs.declared.print.PrintFault.TheVariants as prints
use Rattle.shelltext.specs.declared.shell.Shell.{Shell}
use Rattle.tclrules.specs.declared.limits.Limits.{Limits}
use Rattle.modules.specs.Answers.{cause_of}
use Rattle.requests.specs.Reasons.{RequestReason}
use Rattle.requests.specs.RequestViews.{action_view}
use Rattle.requests.specs.Requests.{RequestedAction, load, unload}
use Rattle.requests.specs.Steps.{RequestStep, request_context_in}
use Rattle.requests.specs.declared.action.Action.{Action}
use Rattle.requests.specs.declared.action.Action.TheVariants as actions
use Rattle.module_auto.specs.Answers.{IsAnswer, IsRequestFault, Outcomes}
use Rattle.module_auto.specs.Loads.{AutomaticNames}
use Rattle.module_auto.specs.declared.answer.AutomaticAnswer.{AutomaticAnswer}
use Rattle.module_auto.specs.declared.fault.RequestFault.{RequestFault}
use Rattle.module_auto.specs.declared.fault.RequestFault.TheVariants as automatic
use Rattle.module_explain.specs.Advised.{Among, ForNeed, ForNeeded, HasReason, IsCompletedLoad, IsCompletedUnload, IsKnown, IsNotAutomatic, LoadComes, none_is_found}
use Rattle.module_explain.specs.Explained.{IsAccepted, IsSound}
use Rattle.module_explain.specs.Views.{IsAutomated}
use Rattle.module_explain.specs.declared.advice.Advice.{Advice}
use Rattle.module_explain.specs.declared.advice.Advice.TheVariants as advices

-- a reason that applies is one over fewer pairs too
applies_later : (c : Cause RequestReason) (failed : Type 0) (P Q : RequestReason → Type 0) → is_transient c ≡ false → ((r : RequestReason) → P r → Q r)
    → Applies c failed P → Applies c ⊥ Q
applies_later memory failed P Q is less h = absurd (cc)
applies_later device failed P Q is less h = absurd (cc)
applies_later (because r) failed P Q is less h = less r h

-- what isn't done with the option, for a reason
pub not_automatic : (before now : Files → Listings → Type 0) (failed : Type 0) (shell : Shell) (e : Environment) (Comes : Outcomes) (fault : RequestFault)
    → Narrows before now → HasReason fault → IsRequestFault before failed shell e Comes fault → IsRequestFault now ⊥ shell e Comes fault
not_automatic before now failed shell e Comes (automatic.Refused refusal) narrows reason h =
    applies_later (cause_of refusal) failed (λ (r : RequestReason). InEachPair before (λ files listings. Comes files listings (Err r)))
    (λ (r : RequestReason). InEachPair now (λ files listings. Comes files listings (Err r))) reason
    (λ r comes files listings a. comes files listings (narrows files listings a)) h
not_automatic before now failed shell e Comes (automatic.Unprinted prints.OutOfMemory) narrows reason h = absurd reason
not_automatic before now failed shell e Comes (automatic.Unprinted (prints.NotSayable name)) narrows reason (d, comes, lacks) =
    (d, λ files listings a. comes files listings (narrows files listings a), lacks)

-- the step of an answer is accepted
pub accepted_answer : (agrees : Files → Listings → Type 0) (limits : Limits) (shell : Shell) (e : Environment) (action : RequestedAction) (a : AutomaticAnswer)
    → IsAnswer agrees shell e (λ files listings. RequestStep (request_context_in limits shell files listings) e action) a → IsAccepted agrees limits shell e action
accepted_answer agrees limits shell e action a (d, comes, text, messages, loaded) = (d, comes, (string_bytes a.text, text))

-- what is advised is sound where its action is accepted
pub sound_automated : (agrees : Files → Listings → Type 0) (limits : Limits) (shell : Shell) (e : Environment) (asked : List Text) (action : Action) (advice : Advice)
    → IsAutomated asked action advice → IsAccepted agrees limits shell e (action_view action) → IsSound agrees limits shell e advice
sound_automated agrees limits shell e asked action advice (typed, is, same) h = subst (λ (x : Advice). IsSound agrees limits shell e x) (sym is) h

pub fits_need : (agrees : Files → Listings → Type 0) (limits : Limits) (shell : Shell) (e : Environment) (alternatives asked : List Text) (action : Action) (advice : Advice)
    → IsAutomated asked action advice → IsCompletedLoad agrees limits shell e asked (action_view action) → ForNeed agrees limits shell e alternatives asked (Some advice)
fits_need agrees limits shell e alternatives asked action advice (typed, is, same) h =
    subst (λ (x : Advice). ForNeed agrees limits shell e alternatives asked (Some x)) (sym is) (same, h)

pub fits_needed : (agrees : Files → Listings → Type 0) (limits : Limits) (shell : Shell) (e : Environment) (asked : List Text) (action : Action) (advice : Advice)
    → IsAutomated asked action advice → IsCompletedUnload agrees limits shell e asked (action_view action) → ForNeeded agrees limits shell e asked (Some advice)
fits_needed agrees limits shell e asked action advice (typed, is, same) h =
    subst (λ (x : Advice). ForNeeded agrees limits shell e asked (Some x)) (sym is) (same, h)

-- ---- what an automated load or unload answers

abbrev pub IsDone : Result AutomaticAnswer RequestFault → Vec (String Global) Global → Type 0
IsDone r names = (a : AutomaticAnswer) × (r ≡ Ok a) × (names ≡ a.names)

pub done_of : (r : Result AutomaticAnswer RequestFault) (o : Option (Vec (String Global) Global)) (names : Vec (String Global) Global)
    → IfSome o (IsDone r) → o ≡ Some names → IsDone r names
done_of r o names h is = subst (λ (o : Option (Vec (String Global) Global)). IfSome o (IsDone r)) is h

abbrev pub IsUndone : Result AutomaticAnswer RequestFault → Type 0
IsUndone r = (fault : RequestFault) × (r ≡ Err fault) × HasReason fault

pub undone_of : (r : Result AutomaticAnswer RequestFault) (o : Option (Vec (String Global) Global)) → IfNone o (IsUndone r)
    → ((names : Vec (String Global) Global) → o ≡ Some names → ⊥) → IsUndone r
undone_of r None h not = h
undone_of r (Some names) h not = absurd (not names refl)

-- what is done is accepted
pub accepted_load : (agrees : Files → Listings → Type 0) (limits : Limits) (shell : Shell) (e : Environment) (r : Result AutomaticAnswer RequestFault)
    (names : Vec (String Global) Global) → ((a : AutomaticAnswer) × (r ≡ Ok a) × (names ≡ a.names))
    → IfOk r (λ a. IsAnswer agrees shell e (λ files listings. RequestStep (request_context_in limits shell files listings) e (load (texts_in a.names))) a)
    → IsAccepted agrees limits shell e (action_view (actions.Load names))
accepted_load agrees limits shell e r names (a, is, same) h =
    let Loaded : Result AutomaticAnswer RequestFault → Type 0 =
    λ r. IfOk r (λ a. IsAnswer agrees shell e (λ files listings. RequestStep (request_context_in limits shell files listings) e (load (texts_in a.names))) a) in
    subst (λ (v : Vec (String Global) Global). IsAccepted agrees limits shell e (load (texts_in v))) (sym same)
    (accepted_answer agrees limits shell e (load (texts_in a.names)) a (subst Loaded is h))

pub accepted_unload : (agrees : Files → Listings → Type 0) (limits : Limits) (shell : Shell) (e : Environment) (r : Result AutomaticAnswer RequestFault)
    (names : Vec (String Global) Global) → ((a : AutomaticAnswer) × (r ≡ Ok a) × (names ≡ a.names))
    → IfOk r (λ a. IsAnswer agrees shell e (λ files listings. RequestStep (request_context_in limits shell files listings) e (unload (texts_in a.names))) a)
    → IsAccepted agrees limits shell e (action_view (actions.Unload names))
accepted_unload agrees limits shell e r names (a, is, same) h =
    let Unloaded : Result AutomaticAnswer RequestFault → Type 0 =
    λ r. IfOk r (λ a. IsAnswer agrees shell e (λ files listings. RequestStep (request_context_in limits shell files listings) e (unload (texts_in a.names))) a) in
    subst (λ (v : Vec (String Global) Global). IsAccepted agrees limits shell e (unload (texts_in v))) (sym same)
    (accepted_answer agrees limits shell e (unload (texts_in a.names)) a (subst Unloaded is h))

-- and the names are those of the answer
pub completed_load : (agrees : Files → Listings → Type 0) (limits : Limits) (shell : Shell) (e : Environment) (asked : List Text) (r : Result AutomaticAnswer RequestFault)
    (names : Vec (String Global) Global) → ((a : AutomaticAnswer) × (r ≡ Ok a) × (names ≡ a.names))
    → IfOk r (λ a. InEachPair agrees (λ files listings. AutomaticNames (request_context_in limits shell files listings) e asked (texts_in a.added) (texts_in a.names)))
    → IsCompletedLoad agrees limits shell e asked (action_view (actions.Load names))
completed_load agrees limits shell e asked r names (a, is, same) h =
    let Completed : Result AutomaticAnswer RequestFault → Type 0 =
    λ r. IfOk r (λ a. InEachPair agrees (λ files listings. AutomaticNames (request_context_in limits shell files listings) e asked (texts_in a.added) (texts_in a.names))) in
    (texts_in a.added, texts_in a.names, ap (λ (v : Vec (String Global) Global). load (texts_in v)) same, subst Completed is h)

-- ---- what isn't done

-- what an answer was refused for
pub undone : (before now : Files → Listings → Type 0) (failed : Type 0) (shell : Shell) (e : Environment) (Comes : Outcomes) (r : Result AutomaticAnswer RequestFault)
    → Narrows before now → ((fault : RequestFault) × (r ≡ Err fault) × HasReason fault) → IfErr r (IsRequestFault before failed shell e Comes)
    → (fault : RequestFault) × HasReason fault × IsRequestFault now ⊥ shell e Comes fault
undone before now failed shell e Comes r narrows (fault, is, reason) h =
    let Refused : Result AutomaticAnswer RequestFault → Type 0 = λ r. IfErr r (IsRequestFault before failed shell e Comes) in
    (fault, reason, not_automatic before now failed shell e Comes fault narrows reason (subst Refused is h))

-- an alternative was found, or none was
pub one_among : (agrees : Files → Listings → Type 0) (limits : Limits) (shell : Shell) (e : Environment) (alternatives : List Text) (o : Option (String Global)) (b : Bool)
    → b ≡ is_some o → b ≡ true → Among agrees limits shell e alternatives (option_map string_bytes o) → (found : Text) × Among agrees limits shell e alternatives (Some found)
one_among agrees limits shell e alternatives (Some name) b is so h = (string_bytes name, h)
one_among agrees limits shell e alternatives None b is so h = absurd (cc)

pub none_among : (agrees : Files → Listings → Type 0) (limits : Limits) (shell : Shell) (e : Environment) (alternatives : List Text) (o : Option (String Global)) (b : Bool)
    → b ≡ is_some o → b ≡ false → Among agrees limits shell e alternatives (option_map string_bytes o) → Among agrees limits shell e alternatives None
none_among agrees limits shell e alternatives (Some name) b is not h = absurd (cc)
none_among agrees limits shell e alternatives None b is not h = h

-- that is said
pub fits_known : (agrees : Files → Listings → Type 0) (limits : Limits) (shell : Shell) (e : Environment) (alternatives asked : List Text) (o : Option Advice)
    → IsNotAutomatic agrees limits shell e (LoadComes agrees limits shell e asked) → Among agrees limits shell e alternatives None → IsKnown (Some (none_is_found alternatives)) o
    → ForNeed agrees limits shell e alternatives asked o
fits_known agrees limits shell e alternatives asked None not none h = absurd (cc)
fits_known agrees limits shell e alternatives asked (Some (advices.Known line)) not none h =
    (not, none, sym (ap (λ (o : Option Text). unwrap_or o []) h))
fits_known agrees limits shell e alternatives asked (Some (advices.Try action)) not none h = absurd h
fits_known agrees limits shell e alternatives asked (Some (advices.TryAutomated typed action)) not none h = absurd h

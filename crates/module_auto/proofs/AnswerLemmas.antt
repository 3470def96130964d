-- What is answered for the names whose request is accepted, and why nothing is.
use Rattle.std.proofs.Common.{◌≡◌, List, string_bytes, String, Result, Ok, Err, IfOk, IfErr, sym, subst}
use Rattle.std.specs.declared.alloc.Global.{Global}
use Rattle.std.specs.declared.vec.Vec.{Vec}
use Rattle.envvars.specs.Texts.{Text, texts_in}
use Rattle.envvars.specs.Environment.{Environment}
use Rattle.filetree.specs.Agreement.{Files, Listings, InEachPair}
use Rattle.filetree.specs.Causes.{Applies, Cause, memory, device, because}
use Rattle.modulefile.specs.Moves.{loaded_names}
use Rattle.shelltext.specs.Reading.{SaysDifference}
use Rattle.shelltext.specs.declared.print.PrintFault.TheVariants as prints
use Rattle.shelltext.specs.declared.shell.Shell.{Shell}
use Rattle.tclrules.specs.declared.limits.Limits.{Limits}
use Rattle.requests.specs.Reasons.{RequestReason}
use Rattle.requests.specs.Requests.{RequestedAction}
use Rattle.requests.specs.Steps.{Done, RequestStep, request_context_in}
use Rattle.modules.specs.Answers.{cause_of}
use Rattle.modules.specs.MoveViews.{moves_of}
use Rattle.modules.specs.Replies.{changed_env, changed_view}
use Rattle.modules.specs.declared.reply.RequestChanges.{RequestChanges}
use Rattle.modules.proofs.StepLemmas.{stands_as}
use Rattle.module_auto.specs.Answers.{IsAnswer, IsRequestFault, Outcomes}
use Rattle.module_auto.specs.Views.{IsUnsaid}
use Rattle.module_auto.specs.declared.answer.AutomaticAnswer.{AutomaticAnswer}
use Rattle.module_auto.specs.declared.fault.RequestFault.{RequestFault}
use Rattle.module_auto.specs.declared.fault.RequestFault.TheVariants.{Refused, Unprinted}

-- want of memory
pub memory_applies : (c : Cause RequestReason) (failed : Type 0) (P : RequestReason → Type 0) → c ≡ memory → Applies c failed P
memory_applies memory failed P h = tt
memory_applies device failed P h = absurd (cc)
memory_applies (because r) failed P h = absurd (cc)

-- the answer has these names
pub of_names : (names added : Vec (String Global) Global) (result : Result AutomaticAnswer RequestFault) (P : List Text → List Text → Type 0) → P (texts_in added) (texts_in names)
    → IfOk result (λ a. (a.names ≡ names) × (a.added ≡ added)) → IfOk result (λ a. P (texts_in a.added) (texts_in a.names))
of_names names added (Ok a) P h same =
    subst (λ (v : Vec (String Global) Global). P (texts_in a.added) (texts_in v)) (sym same.0)
    (subst (λ (v : Vec (String Global) Global). P (texts_in v) (texts_in names)) (sym same.1) h)
of_names names added (Err fault) P h same = tt

module _ (agrees : Files → Listings → Type 0) (shell : Shell) (e : Environment) (changed : RequestChanges) where
  unsaid : (failed : Type 0) (Comes : Outcomes) (fault : RequestFault) → InEachPair agrees (λ files listings. Comes files listings (Ok (changed_view e changed)))
      → IsUnsaid shell e (changed_env e changed) fault → IsRequestFault agrees failed shell e Comes fault
  unsaid failed Comes (Refused refusal) step h =
      memory_applies (cause_of refusal) failed (λ reason. InEachPair agrees (λ files listings. Comes files listings (Err reason))) h
  unsaid failed Comes (Unprinted prints.OutOfMemory) step h = tt
  unsaid failed Comes (Unprinted (prints.NotSayable name)) step h = (changed_view e changed, step, h)

  -- there is no answer
  pub faulted : (failed : Type 0) (Comes : Outcomes) (result : Result AutomaticAnswer RequestFault)
      → InEachPair agrees (λ files listings. Comes files listings (Ok (changed_view e changed)))
      → IfErr result (IsUnsaid shell e (changed_env e changed)) → IfErr result (IsRequestFault agrees failed shell e Comes)
  faulted failed Comes (Ok a) step h = tt
  faulted failed Comes (Err fault) step h = unsaid failed Comes fault step h

  -- the answer of the request of these names
  pub answered : (limits : Limits) (act : List Text → RequestedAction) (names added : Vec (String Global) Global) (result : Result AutomaticAnswer RequestFault)
      → InEachPair agrees (λ files listings. RequestStep (request_context_in limits shell files listings) e (act (texts_in names)) (Ok (changed_view e changed)))
      → IfOk result (λ a. SaysDifference shell (string_bytes a.text) e (changed_env e changed))
      → IfOk result (λ a. (texts_in a.messages ≡ texts_in changed.done.messages) × (texts_in a.loaded ≡ loaded_names (moves_of changed.done.moves)))
      → IfOk result (λ a. (a.names ≡ names) × (a.added ≡ added))
      → IfOk result (λ a. IsAnswer agrees shell e (λ files listings. RequestStep (request_context_in limits shell files listings) e (act (texts_in a.names))) a)
  answered limits act names added (Ok a) step said done same =
      let Stepped : Vec (String Global) Global → Type 0 = λ v.
      InEachPair agrees (λ files listings. RequestStep (request_context_in limits shell files listings) e (act (texts_in v)) (Ok (changed_view e changed))) in
      (changed_view e changed, subst Stepped (sym same.0) step, said, done.0, done.1)
  answered limits act names added (Err fault) step said done same = tt

-- A failure in the last of several calls is one of them all, and one of outcomes that are among others.
fault_among : (agrees : Files → Listings → Type 0) (shell : Shell) (e : Environment) (failed before : Type 0) (Comes Others : Outcomes) (fault : RequestFault) → (failed → before)
    → InEachPair agrees (λ files listings. (o : Result Done RequestReason) → Comes files listings o → Others files listings o)
    → IsRequestFault agrees failed shell e Comes fault → IsRequestFault agrees before shell e Others fault
fault_among agrees shell e failed before Comes Others (Refused refusal) later among h =
    stands_as (cause_of refusal) failed before (λ reason. InEachPair agrees (λ files listings. Comes files listings (Err reason)))
    (λ reason. InEachPair agrees (λ files listings. Others files listings (Err reason))) later (λ r k files listings a. among files listings a (Err r) (k files listings a)) h
fault_among agrees shell e failed before Comes Others (Unprinted prints.OutOfMemory) later among h = tt
fault_among agrees shell e failed before Comes Others (Unprinted (prints.NotSayable name)) later among (d, comes, lacks) =
    (d, (λ files listings a. among files listings a (Ok d) (comes files listings a)), lacks)

pub faults_among : (agrees : Files → Listings → Type 0) (shell : Shell) (e : Environment) (failed before : Type 0) (Comes Others : Outcomes) (result : Result AutomaticAnswer RequestFault)
    → (failed → before) → InEachPair agrees (λ files listings. (o : Result Done RequestReason) → Comes files listings o → Others files listings o)
    → IfErr result (IsRequestFault agrees failed shell e Comes) → IfErr result (IsRequestFault agrees before shell e Others)
faults_among agrees shell e failed before Comes Others (Ok a) later among h = tt
faults_among agrees shell e failed before Comes Others (Err fault) later among h = fault_among agrees shell e failed before Comes Others fault later among h

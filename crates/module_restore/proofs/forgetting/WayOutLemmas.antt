-- Why no way out is found, and why there is no text.
use Rattle.std.proofs.Common.{◌≡◌, Bool, List, Ok, Err, ap, inl}
use Rattle.envvars.specs.Changes.{AreChanges, NewValue}
use Rattle.envvars.specs.Environment.{Environment}
use Rattle.envvars.specs.Texts.{Text}
use Rattle.envvars.specs.declared.fault.EnvFault.{EnvFault}
use Rattle.envvars.specs.declared.fault.EnvFault.TheVariants.{OutOfMemory, Inconsistent, BadVariable, Protected, CounterFull, BadStack, BadValue}
use Rattle.envstate.specs.loaded_list.Loaded.{loaded_in}
use Rattle.envstate.specs.loaded_list.LoadedEntries.{GivesList}
use Rattle.filetree.specs.Agreement.{Files, InEachPair, Listings}
use Rattle.filetree.specs.Causes.{Applies}
use Rattle.shelltext.specs.Printing.{IsPrintFault}
use Rattle.shelltext.specs.declared.print.PrintFault.{PrintFault}
use Rattle.shelltext.specs.declared.print.PrintFault.TheVariants as prints
use Rattle.shelltext.specs.declared.shell.Shell.{Shell}
use Rattle.module_restore.specs.forgetting.Answers.{ForgetsOver, IsForgetFault, IsNoWayOut, IsUnread, cause_of}
use Rattle.module_restore.specs.forgetting.Forgets.{ForgetReason, Forgetting, consistent, entries_of}
use Rattle.module_restore.specs.declared.forgetting.fault.ForgetFault.{ForgetFault}
use Rattle.module_restore.specs.declared.forgetting.fault.ForgetFault.TheVariants as faults
use Rattle.module_restore.specs.declared.forgetting.fault.ForgetRefusal.{ForgetRefusal}
use Rattle.module_restore.specs.declared.forgetting.fault.ForgetRefusal.TheVariants as refusals
use Rattle.module_restore.proofs.forgetting.ForgetLemmas.{stands_as}

module _ (agrees : Files → Listings → Type 0) (failed : Type 0) (shell : Shell) (e : Environment) where
  unread : (fault : EnvFault) → GivesList (Err fault) (loaded_in e) → IsUnread failed e (faults.Refused (refusals.Env fault))
  unread OutOfMemory h = tt
  unread Inconsistent h = ap consistent h
  unread (BadVariable x) h = absurd h
  unread (Protected x) h = absurd h
  unread (CounterFull x) h = absurd h
  unread (BadStack x) h = absurd h
  unread (BadValue x) h = absurd h

  -- the loaded lists can't be read
  pub no_lists : (fault : EnvFault) → GivesList (Err fault) (loaded_in e) → IsNoWayOut agrees failed shell e (faults.Refused (refusals.Env fault))
  no_lists fault h = inl (unread fault h)

  -- a file can't be looked at
  pub no_look : (before : Type 0) (refusal : ForgetRefusal) → (before → failed) → Applies (cause_of refusal) before (λ reason. ⊥) → IsNoWayOut agrees failed shell e (faults.Refused refusal)
  no_look before refusal later h =
      let Unread : ForgetReason → Type 0 = λ r. entries_of e ≡ Err r in
      inl (stands_as (cause_of refusal) before failed (λ reason. ⊥) Unread later (λ r k. absurd k) h)

-- ---- changes without a text

module _ (agrees : Files → Listings → Type 0) (failed : Type 0) (shell : Shell) (settings_stay : Bool) (e : Environment) (names : List Text) (d : Forgetting)
    (comes : InEachPair agrees (λ files listings. ForgetsOver settings_stay e names files listings (Ok d))) (cs : List NewValue) (exact : AreChanges e d.env cs) where
  pub unprinted : (fault : PrintFault) → IsPrintFault shell cs fault → IsForgetFault agrees failed shell settings_stay e names (faults.Unprinted fault)
  unprinted prints.OutOfMemory h = tt
  unprinted (prints.NotSayable name) h = (d, comes, (cs, exact, h))

-- a fault, also where more can have failed
module _ (agrees : Files → Listings → Type 0) (before now : Type 0) (shell : Shell) (settings_stay : Bool) (e : Environment) (names : List Text) (later : before → now) where
  pub fault_later : (fault : ForgetFault) → IsForgetFault agrees before shell settings_stay e names fault → IsForgetFault agrees now shell settings_stay e names fault
  fault_later (faults.Refused refusal) h =
      let Whole : ForgetReason → Type 0 = λ r. InEachPair agrees (λ files listings. ForgetsOver settings_stay e names files listings (Err r)) in
      stands_as (cause_of refusal) before now Whole Whole later (λ r k. k) h
  fault_later (faults.Unprinted prints.OutOfMemory) h = tt
  fault_later (faults.Unprinted (prints.NotSayable name)) h = h

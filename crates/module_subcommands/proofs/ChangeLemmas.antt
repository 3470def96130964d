-- Refusals and outcomes in a wider form.
use Rattle.std.proofs.Common.{Result, Ok, Err}
use Rattle.envvars.specs.Environment.{Environment}
use Rattle.filetree.specs.Agreement.{Files, Listings, InEachPair, Narrows}
use Rattle.shelltext.specs.declared.print.PrintFault.TheVariants as prints
use Rattle.shelltext.specs.declared.shell.Shell.{Shell}
use Rattle.requests.specs.Reasons.{RequestReason}
use Rattle.requests.specs.Steps.{Done}
use Rattle.modules.specs.Answers.{cause_of}
use Rattle.modules.proofs.StepLemmas.{stands_as}
use Rattle.module_auto.specs.Answers.{IsRequestFault, Outcomes}
use Rattle.module_auto.specs.declared.fault.RequestFault.{RequestFault}
use Rattle.module_auto.specs.declared.fault.RequestFault.TheVariants.{Refused, Unprinted}
use Rattle.module_subcommands.specs.Changes.{IsRefusedChange}
use Rattle.module_subcommands.specs.declared.refusal.Refusal.{Refusal}
use Rattle.module_subcommands.specs.declared.refusal.Refusal.TheVariants as refusals

module _ (agrees agrees' : Files → Listings → Type 0) (narrows : Narrows agrees agrees') (failed failed' : Type 0) (later : failed → failed') (shell : Shell) (e : Environment)
    (Comes Comes' : Outcomes) (wider : (files : Files) (listings : Listings) (o : Result Done RequestReason) → agrees' files listings → Comes files listings o → Comes' files listings o) where
  pub fault_wider : (fault : RequestFault) → IsRequestFault agrees failed shell e Comes fault → IsRequestFault agrees' failed' shell e Comes' fault
  fault_wider (Refused refusal) h =
      stands_as (cause_of refusal) failed failed' (λ r. InEachPair agrees (λ files listings. Comes files listings (Err r))) (λ r. InEachPair agrees' (λ files listings. Comes' files listings (Err r)))
      later (λ r k files listings a. wider files listings (Err r) a (k files listings (narrows files listings a))) h
  fault_wider (Unprinted prints.OutOfMemory) h = tt
  fault_wider (Unprinted (prints.NotSayable name)) (d, step, lacks) =
      (d, λ files listings a. wider files listings (Ok d) a (step files listings (narrows files listings a)), lacks)

  pub refusal_wider : (refusal : Refusal) → IsRefusedChange agrees failed shell e Comes refusal → IsRefusedChange agrees' failed' shell e Comes' refusal
  refusal_wider refusals.OutOfMemory h = tt
  refusal_wider refusals.BadArguments h = absurd h
  refusal_wider refusals.WriteFailed h = absurd h
  refusal_wider (refusals.Numbered numbered) h = absurd h
  refusal_wider (refusals.Function fault) h = absurd h
  refusal_wider (refusals.Output fault) h = absurd h
  refusal_wider (refusals.Listing fault) h = absurd h
  refusal_wider (refusals.Described refusal) h = absurd h
  refusal_wider (refusals.Requested fault) h = fault_wider fault h
  refusal_wider (refusals.Restore fault) h = fault_wider fault h
  refusal_wider (refusals.Keep fault) h = absurd h
  refusal_wider (refusals.Forget fault) h = absurd h
  refusal_wider (refusals.Files fault) h = absurd h

-- What the values of the code stand for, for the contracts of this crate's private functions (own).
use Rattle.std.specs.Prelude.{◌≡◌, ◌⊎◌, ◌-◌, ◌+◌, ◌*◌, ℕ, Bool, true, false, List, [], ◌∷◌, ◌++◌, take, insert, vec_len}
use Rattle.std.specs.Prelude.{All, Ok, string_bytes}
use Rattle.envvars.specs.Texts.{Text, texts_in}
use Rattle.envvars.specs.Environment.{Environment}
use Rattle.shelltext.specs.declared.print.PrintFault.TheVariants as prints
use Rattle.shelltext.specs.declared.shell.Shell.{Shell}
use Rattle.requests.specs.Reasons.{RequestReason, still_needed_by}
use Rattle.requests.specs.Requests.{load}
use Rattle.requests.specs.Steps.{RequestContext, Done, RequestStep}
use Rattle.modules.specs.Answers.{cause_of}
use Rattle.filetree.specs.Causes.{Cause, memory, device, because}
use Rattle.shelltext.specs.Printing.{LacksText}
use Rattle.module_auto.specs.Adding.{is_spent, most_added}
use Rattle.module_auto.specs.Loads.{Completes, IsFirstFound, IsFound, IsMissed, LoadsTo}
use Rattle.module_auto.specs.Unloads.{IsFinal}
use Rattle.module_auto.specs.declared.plan.Plan.{Plan}
use Rattle.module_auto.specs.declared.fault.RequestFault.{RequestFault}
use Rattle.module_auto.specs.declared.fault.RequestFault.TheVariants as faults

-- the names of the plan complete those asked for, and the first of them, that are ready, can be loaded
pub record IsPlan (s : RequestContext) (e : Environment) (asked : List Text) (plan : Plan) : Type 0 where
  pub completed : Completes s e asked (texts_in plan.added) (texts_in plan.names)
  pub loaded : LoadsTo s e (take plan.ready (texts_in plan.names)) plan.after

-- all names of the plan can be loaded
pub record IsWhole (s : RequestContext) (e : Environment) (asked : List Text) (plan : Plan) : Type 0 where
  pub completed : Completes s e asked (texts_in plan.added) (texts_in plan.names)
  pub loaded : LoadsTo s e (texts_in plan.names) plan.after

-- the load of these names is accepted and makes this environment
abbrev pub Loads : RequestContext → Environment → List Text → Environment → Type 0
Loads s e names after = (d : Done) × RequestStep s e (load names) (Ok d) × (after ≡ d.env)

-- there is a reason in the files
abbrev pub is_reason : {R : Type 0} → Cause R → Bool
is_reason memory = false
is_reason device = false
is_reason (because reason) = true

-- the search finds the name, or misses it
abbrev pub IsFoundOrMissed : RequestContext → Environment → Text → Bool → Type 0
IsFoundOrMissed s e name true = IsFound s e name
IsFoundOrMissed s e name false = IsMissed s e name

-- none of the alternatives is found, or the first that is isn't put in any more
abbrev pub IsUnmet : RequestContext → Environment → List Text → List Text → Type 0
IsUnmet s e added alternatives =
    All (IsMissed s e) alternatives
    ⊎ ((needed : Text) × IsFirstFound s e alternatives needed × (is_spent needed added ≡ true))

-- the first of the alternatives that is found goes before the name that isn't ready
pub record PutsIn (s : RequestContext) (alternatives : List Text) (old new : Plan) : Type 0 where
  pub needed : Text
  pub first : IsFirstFound s old.after alternatives needed
  pub unspent : is_spent needed (texts_in old.added) ≡ false
  pub added : texts_in new.added ≡ texts_in old.added ++ needed ∷ []
  pub names : texts_in new.names ≡ insert (texts_in old.names) old.ready needed
  pub ready : new.ready ≡ old.ready
  pub after : new.after ≡ old.after

-- the module that still needs something goes in front of the names
pub record PutsInFront (cause : Cause RequestReason) (names added names' added' : List Text) : Type 0 where
  pub needing : Text
  pub refused : cause ≡ because (still_needed_by needing)
  pub unspent : is_spent needing added ≡ false
  pub front : names' ≡ needing ∷ names
  pub back : added' ≡ added ++ needing ∷ []

-- the cause stands, and nothing is put in for its reason; or memory is wanting
abbrev pub IsNotPut : Cause RequestReason → List Text → Cause RequestReason → Type 0
IsNotPut cause added memory = Unit {0}
IsNotPut cause added device = cause ≡ device
IsNotPut cause added (because reason) = (cause ≡ because reason) × IsFinal added reason

-- a bound on the tries that are left: each makes a name ready, or puts one in
abbrev pub tries_left : Plan → ℕ
tries_left plan = 2 * (most_added - vec_len plan.added) + (vec_len plan.names - plan.ready)

-- why there is no text of the difference: want of memory, or no text says it
abbrev pub IsUnsaid : Shell → (old new : Environment) → RequestFault → Type 0
IsUnsaid shell old new (faults.Refused refusal) = cause_of refusal ≡ memory
IsUnsaid shell old new (faults.Unprinted prints.OutOfMemory) = Unit {0}
IsUnsaid shell old new (faults.Unprinted (prints.NotSayable name)) = LacksText shell old new (string_bytes name)

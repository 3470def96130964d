-- What is advised where a request is refused (own): by the reason, another request that would be accepted, or what is
-- known; or nothing.
use Rattle.std.specs.Prelude.{◌≡◌, ◌⊎◌, Bool, true, false, List, [], ◌∷◌, ◌++◌, All, codes, Option, Some, None}
use Rattle.std.specs.Prelude.{Contains, is_some, Result, Ok, Err, string_bytes}
use Rattle.std.specs.List.{flat_map}
use Rattle.envstate.specs.loaded_list.Loaded.{Entry, loaded_in, names_of}
use Rattle.envvars.specs.Environment.{Environment}
use Rattle.envvars.specs.Texts.{Text, has, texts_in}
use Rattle.filetree.specs.Agreement.{Files, Listings, InEachPair}
use Rattle.modules.specs.transient_failures.Causes.{is_transient}
use Rattle.filetree.specs.Modulefiles.{directories}
use Rattle.modulefile.specs.Files.{FileStop, halted}
use Rattle.modulename.specs.ModuleName.{is_module_name}
use Rattle.modules.specs.Answers.{cause_of}
use Rattle.modules.specs.Spaced.{spaced}
use Rattle.requests.specs.Reasons.{RequestReason, conflict_with, prereq_missing, still_needed_by, missed, file_refused}
use Rattle.requests.specs.RequestViews.{action_view}
use Rattle.requests.specs.Requests.{RequestedAction, load, unload, switch}
use Rattle.requests.specs.Steps.{Done, RequestStep, modulepath, request_context_in}
use Rattle.search.specs.Reasons.{FindReason, bad_default, bad_name, not_found}
use Rattle.shelltext.specs.Printing.{LacksText}
use Rattle.shelltext.specs.declared.print.PrintFault.TheVariants as prints
use Rattle.shelltext.specs.declared.shell.Shell.{Shell}
use Rattle.tclrules.specs.Derivation.{Halt, LeftOut}
use Rattle.tclrules.specs.declared.limits.Limits.{Limits}
use Rattle.module_auto.specs.Answers.{IsRequestFault, Outcomes}
use Rattle.module_auto.specs.Loads.{AutomaticLoad, AutomaticNames, FoundAmong}
use Rattle.module_auto.specs.Unloads.{AutomaticUnload, StillNeed, in_front}
use Rattle.module_auto.specs.declared.fault.RequestFault.{RequestFault}
use Rattle.module_auto.specs.declared.fault.RequestFault.TheVariants as automatic
use Rattle.module_explain.specs.Alike.{AreLike, others, respelled}
use Rattle.module_explain.specs.Paths.{is_path, path_line}
use Rattle.module_explain.specs.Replacements.{instead_of}
use Rattle.module_explain.specs.declared.advice.Advice.{Advice}
use Rattle.module_explain.specs.declared.advice.Advice.TheVariants as advices

-- ---- what is known

-- MODULEPATH is unset, or empty
abbrev pub nothing_searched : Text
nothing_searched =
    codes "No MODULEPATH is set: \"module use DIRECTORY\" adds one, and a site has its own in etc/modulespath."

abbrev pub none_is_there : Text → Text
none_is_there path = codes "None of the directories of MODULEPATH is there: " ++ path

abbrev pub none_is_found : List Text → Text
none_is_found alternatives = codes "Not found either: " ++ spaced alternatives

-- of a file that names defaults, and has a fault
abbrev pub of_default_file : Text
of_default_file =
    codes "It names a default: \"module-version NAME/VERSION default\" in .modulerc, \"set ModulesVersion VERSION\" in .version."

abbrev pub behind_comma : Text → Text
behind_comma name = codes ", " ++ name

-- the names that may be meant, as a question
abbrev pub question : List Text → Option Text
question [] = None
question (first ∷ others) = Some (codes "Did you mean " ++ (first ++ (flat_map behind_comma others ++ codes "?")))

-- it is this line, or nothing
abbrev pub IsKnown : Option Text → Option Advice → Type 0
IsKnown line None = line ≡ None
IsKnown line (Some (advices.Known known)) = line ≡ Some (string_bytes known)
IsKnown line (Some (advices.Try action)) = ⊥
IsKnown line (Some (advices.TryAutomated asked action)) = ⊥

-- ---- the names of a request

-- those of a load, and those of an unload
abbrev pub names_to_load : RequestedAction → Option (List Text)
names_to_load (load names) = Some names
names_to_load action = None

abbrev pub names_to_unload : RequestedAction → Option (List Text)
names_to_unload (unload names) = Some names
names_to_unload action = None

abbrev pub names_or_none : Option (List Text) → List Text
names_or_none None = []
names_or_none (Some names) = names

-- ---- what is refused for itself, and where names are searched

-- the fault is neither want of memory nor a failed device
abbrev pub HasReason : RequestFault → Type 0
HasReason (automatic.Refused refusal) = is_transient (cause_of refusal) ≡ false
HasReason (automatic.Unprinted prints.OutOfMemory) = ⊥
HasReason (automatic.Unprinted (prints.NotSayable name)) = Unit {0}

-- for those names of a request that there are
abbrev pub ForNames : (List Text → Option Advice → Type 0) → Option (List Text) → Option Advice → Type 0
ForNames For None o = o ≡ None
ForNames For (Some names) o = For names o

abbrev pub ForHalt : Halt → Option Advice → Type 0
ForHalt (LeftOut name) o = IsKnown (instead_of name) o
ForHalt halt o = o ≡ None

abbrev pub ForStop : FileStop → Option Advice → Type 0
ForStop (halted halt) o = ForHalt halt o
ForStop stop o = o ≡ None

-- none of the directories that are searched is there, or one is
abbrev pub NoneIsThere : (Files → Listings → Type 0) → List Text → Type 0
NoneIsThere agrees searched =
    InEachPair agrees (λ files listings. All (λ directory. listings directory ≡ None) searched)

abbrev pub IsOneThere : (Files → Listings → Type 0) → List Text → Type 0
IsOneThere agrees searched =
    (directory : Text) × Contains searched directory
    × InEachPair agrees (λ files listings. is_some (listings directory) ≡ true)

-- ---- other requests, in an environment and over the pairs of maps that agree with a tree

module _ (agrees : Files → Listings → Type 0) (limits : Limits) (shell : Shell) (e : Environment) where
  -- in each pair the request comes to this
  abbrev pub ComesTo : RequestedAction → Result Done RequestReason → Type 0
  ComesTo action o = InEachPair agrees (λ files listings.
      RequestStep (request_context_in limits shell files listings) e action o)

  -- in each pair it is refused, for one reason
  pub record IsRefused (action : RequestedAction) : Type 0 where
    pub reason : RequestReason
    pub refused : ComesTo action (Err reason)

  -- in each pair it does the same, and its changes have no text in the shell
  pub record IsUnsaid (action : RequestedAction) : Type 0 where
    pub done : Done
    pub comes : ComesTo action (Ok done)
    pub name : Text
    pub lacks : LacksText shell e done.env name

  -- it isn't accepted
  abbrev pub IsNotAccepted : RequestedAction → Type 0
  IsNotAccepted action = IsRefused action ⊎ IsUnsaid action

  -- none of the switches from this module to one of the names is accepted
  abbrev pub NoSwitch : Text → List Text → Type 0
  NoSwitch other names = All (λ name. IsNotAccepted (switch (Some other) name)) names

  -- the switch to the first of the names for which it is accepted
  pub record IsFirstSwitch (other : Text) (names : List Text) (advised : RequestedAction) : Type 0 where
    pub before : List Text
    pub name : Text
    pub after : List Text
    pub parted : names ≡ before ++ name ∷ after
    pub refused : NoSwitch other before
    pub switches : advised ≡ switch (Some other) name

  -- In the place of a load that a loaded module forbids: a switch from that one, or else its unload.
  abbrev pub IsInstead : Text → List Text → RequestedAction → Type 0
  IsInstead other names advised =
      IsFirstSwitch other names advised ⊎ (NoSwitch other names × (advised ≡ unload (other ∷ [])))

  -- or nothing, where neither is accepted
  abbrev pub Instead : Text → List Text → Option Advice → Type 0
  Instead other names None = NoSwitch other names × IsNotAccepted (unload (other ∷ []))
  Instead other names (Some (advices.Try action)) = IsInstead other names (action_view action)
  Instead other names (Some (advices.TryAutomated asked action)) = ⊥
  Instead other names (Some (advices.Known line)) = ⊥

  -- the module is loaded, or isn't
  abbrev pub IsLoaded : Text → Bool → Type 0
  IsLoaded name is =
      (entries : List Entry) × (loaded_in e ≡ Some entries) × (has name (names_of entries) ≡ is)

  -- Nothing where the module that forbids it is one of the request's own.
  abbrev pub ForConflict : Text → List Text → Option Advice → Type 0
  ForConflict other names o =
      (IsLoaded other false × (o ≡ None)) ⊎ (IsLoaded other true × Instead other names o)

  -- ---- with the option --auto

  -- it isn't done with that option either, for a reason
  abbrev pub IsNotAutomatic : Outcomes → Type 0
  IsNotAutomatic Comes =
      (fault : RequestFault) × HasReason fault × IsRequestFault agrees ⊥ shell e Comes fault

  abbrev pub LoadComes : List Text → Outcomes
  LoadComes names files listings o = AutomaticLoad (request_context_in limits shell files listings) e names o

  abbrev pub UnloadComes : List Text → Outcomes
  UnloadComes names files listings o = AutomaticUnload (request_context_in limits shell files listings) e names o

  -- these are the names that the automated load loads, or that the automated unload unloads
  abbrev pub IsCompletedLoad : List Text → RequestedAction → Type 0
  IsCompletedLoad asked advised =
      (added : List Text) × (names : List Text) × (advised ≡ load names)
      × InEachPair agrees (λ files listings.
      AutomaticNames (request_context_in limits shell files listings) e asked added names)

  abbrev pub IsCompletedUnload : List Text → RequestedAction → Type 0
  IsCompletedUnload asked advised =
      (added : List Text) × (advised ≡ unload (in_front added asked))
      × InEachPair agrees (λ files listings. StillNeed (request_context_in limits shell files listings) e asked added)

  -- the search finds none of the alternatives, or this one first
  abbrev pub Among : List Text → Option Text → Type 0
  Among alternatives found = InEachPair agrees (λ files listings.
      FoundAmong (request_context_in limits shell files listings) e alternatives found)

  -- For a need: the load with what is needed first, or else that none of the alternatives is found.
  abbrev pub ForNeed : List Text → List Text → Option Advice → Type 0
  ForNeed alternatives names None = IsNotAutomatic (LoadComes names) × (found : Text) × Among alternatives (Some found)
  ForNeed alternatives names (Some (advices.TryAutomated asked action)) =
      (texts_in asked ≡ names) × IsCompletedLoad names (action_view action)
  ForNeed alternatives names (Some (advices.Known line)) =
      IsNotAutomatic (LoadComes names) × Among alternatives None × (string_bytes line ≡ none_is_found alternatives)
  ForNeed alternatives names (Some (advices.Try action)) = ⊥

  -- For an unload of what others need: the unload with these.
  abbrev pub ForNeeded : List Text → Option Advice → Type 0
  ForNeeded names None = IsNotAutomatic (UnloadComes names)
  ForNeeded names (Some (advices.TryAutomated asked action)) =
      (texts_in asked ≡ names) × IsCompletedUnload names (action_view action)
  ForNeeded names (Some (advices.Known line)) = ⊥
  ForNeeded names (Some (advices.Try action)) = ⊥

  -- ---- a name that isn't found

  -- Where nothing is searched that is said; else the question whether other names are meant that are like it, if any are.
  abbrev pub ForUnknown : (path typed : Text) → Option Advice → Type 0
  ForUnknown [] typed o = IsKnown (Some nothing_searched) o
  ForUnknown (b ∷ path) typed o =
      (NoneIsThere agrees (directories (b ∷ path)) × IsKnown (Some (none_is_there (b ∷ path))) o)
      ⊎ (IsOneThere agrees (directories (b ∷ path)) × ((names : List Text)
      × InEachPair agrees (λ files listings. AreLike listings (directories (b ∷ path)) typed names)
      × IsKnown (question (others typed names)) o))

  -- For an ill-spelled name: the question whether names are meant that are like what it may stand for, if this is well
  -- spelled.
  abbrev pub ForMisspelled : (path name : Text) → Option Advice → Type 0
  ForMisspelled path name o =
      ((is_module_name name ≡ false) × (o ≡ None))
      ⊎ ((is_module_name name ≡ true) × ((names : List Text)
      × InEachPair agrees (λ files listings. AreLike listings (directories path) name names)
      × IsKnown (question names) o))

  -- For a path: its name below a directory that is searched, or that none of these has it. For another ill-spelled name
  -- what it may stand for.
  abbrev pub ForPathOr : Bool → (path name : Text) → Option Advice → Type 0
  ForPathOr true path name o = IsKnown (Some (path_line (directories path) name)) o
  ForPathOr false path name o = ForMisspelled path (respelled name) o

  -- ---- each reason

  abbrev pub ForMissed : FindReason → Option Advice → Type 0
  ForMissed (not_found name) o = ForUnknown (modulepath e) name o
  ForMissed (bad_name name) o = ForPathOr (is_path name) (modulepath e) name o
  ForMissed (bad_default path) o = IsKnown (Some of_default_file) o
  ForMissed reason o = o ≡ None

  -- What is advised of a request that is refused for this reason.
  abbrev pub IsAdvised : RequestedAction → RequestReason → Option Advice → Type 0
  IsAdvised action (conflict_with other) o = ForConflict other (names_or_none (names_to_load action)) o
  IsAdvised action (prereq_missing alternatives) o = ForNames (ForNeed alternatives) (names_to_load action) o
  IsAdvised action (still_needed_by name) o = ForNames ForNeeded (names_to_unload action) o
  IsAdvised action (missed reason) o = ForMissed reason o
  IsAdvised action (file_refused reason) o = ForStop reason.stop o
  IsAdvised action reason o = o ≡ None

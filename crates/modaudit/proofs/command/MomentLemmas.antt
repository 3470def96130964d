-- How commands end at a moment of a session of modules that the report calls certified.
use Rattle.std.proofs.Common.{◌≡◌, inl, inr, List, [], ◌∷◌, Some, Result, Ok, Err, refl, ap, sym, ◌∙◌, subst}
use Rattle.envvars.specs.Texts.{Text}
use Rattle.envvars.specs.Environment.{Environment}
use Rattle.envstate.specs.loaded_list.Loaded.{Entry}
use Rattle.shelltext.specs.declared.shell.Shell.{Shell}
use Rattle.shelltext.specs.Shells.{shell_named}
use Rattle.filetree.specs.Agreement.{Files, Listings}
use Rattle.modulefile.specs.Moves.{Module}
use Rattle.reversal.specs.Live.{entries_over}
use Rattle.requests.specs.Laws as requests
use Rattle.requests.specs.Reasons.{RequestReason}
use Rattle.requests.specs.Requests.{RequestedAction, load, unload, switch, request_of}
use Rattle.requests.specs.Steps.{Done, RequestStep, request_context_in}
use Rattle.audit_certificate.specs.RecordUses.{used_by}
use Rattle.audit_certificate.specs.Candidates.{Candidate}
use Rattle.audit_certificate.specs.Certificates.{IsCertified, AgreesWith}
use Rattle.audit_certificate.specs.Laws.{AreLayered}
use Rattle.audit_laws.specs.site.Sites.{SiteModule, ReadsEquivalently, candidate_file}
use Rattle.audit_laws.specs.returns.Unloads.{without_all, without_named, IsStillNeeded, IsAcceptedOrNeeded}
use Rattle.audit_laws.specs.returns.Loads.{MayForbidLoad, MayForbidSwitch, IsAcceptedOrForbidden, IsSwitchedOrForbidden}
use Rattle.audit_laws.specs.returns.Laws.{AreLiveOver, UnloadsAreAccepted, NamedUnloadsAreAccepted, LoadsAreAccepted, SwitchesAreAccepted, ReadsAreOfStart}
use Rattle.audit_site.specs.declared.auditing.SiteAudit.{SiteAudit}
use Rattle.modulecmd.specs.Command.{standard, for_shell, by_shell}
use Rattle.modaudit.specs.command.SiteCommands.{judged_site}
use Rattle.modaudit.specs.command.Moments.{SuitsStart, EndsBy, Leaves, IsDone, IsUnrelated, CommandsEnd}

-- ---- from the step of a request to a command

abbrev StepEndsBy : (Done → Type 0) → (RequestReason → Type 0) → Result Done RequestReason → Type 0
StepEndsBy HasDone MayRefuse (Ok done) = HasDone done
StepEndsBy HasDone MayRefuse (Err reason) = MayRefuse reason

ends_by : (files : Files) (listings : Listings) (word : Text) (shell : Shell) (words : List Text) (action : RequestedAction) (e : Environment) (HasDone : Done → Type 0)
    (MayRefuse : RequestReason → Type 0) (o : Result Done RequestReason) → shell_named word ≡ Some shell → request_of words ≡ Ok action
    → RequestStep (request_context_in standard shell files listings) e action o → StepEndsBy HasDone MayRefuse o → EndsBy files listings (word ∷ words) e HasDone MayRefuse
ends_by files listings word shell words action e HasDone MayRefuse (Ok done) named asked step done_so =
    inl ((shell, done), (Ok (shell, action), sym (ap (by_shell word words) named ∙ ap (for_shell shell) asked), (Ok done, step, refl)), done_so)
ends_by files listings word shell words action e HasDone MayRefuse (Err reason) named asked step refused_so =
    inr (reason, (Ok (shell, action), sym (ap (by_shell word words) named ∙ ap (for_shell shell) asked), (Err reason, step, refl)), refused_so)

unloaded : (IsOver : List Module → Environment → Type 0) (first : List Entry) (live left : List Module) (o : Result Done RequestReason) → IsAcceptedOrNeeded IsOver first live left o
    → StepEndsBy (Leaves live left) (IsStillNeeded (entries_over first live) (entries_over first left)) o
unloaded IsOver first live left (Ok done) h = h.1
unloaded IsOver first live left (Err reason) h = h

loaded_so : (o : Result Done RequestReason) → IsAcceptedOrForbidden o → StepEndsBy IsDone MayForbidLoad o
loaded_so (Ok done) h = tt
loaded_so (Err reason) h = h

switched_so : (o : Result Done RequestReason) → IsSwitchedOrForbidden o → StepEndsBy IsDone MayForbidSwitch o
switched_so (Ok done) h = tt
switched_so (Err reason) h = h

-- ---- modules of the report

-- one that suits the start is certified, and the start agrees with it
pub record IsCertain (ms : List Candidate) (start : Environment) (m : SiteModule) : Type 0 where
  pub certain : Candidate
  pub certified : IsCertified ms certain
  pub file : candidate_file certain ≡ m
  pub agrees : AgreesWith (used_by certain.records) start

-- the laws that these rest on
pub record Laws : Type 0 where
  pub some : requests.SomeOutcome
  pub unloads : UnloadsAreAccepted
  pub named : NamedUnloadsAreAccepted
  pub loads : LoadsAreAccepted
  pub reads : ReadsAreOfStart
  pub switches : SwitchesAreAccepted

pub commands_end : Laws → (judged_in : Environment) (files : Files) (listings : Listings) (ms : List Candidate) (found : SiteAudit) (live : List Module) (now start : Environment)
    → AreLiveOver (judged_site judged_in files listings) ms start live now
    → ((m : SiteModule) → SuitsStart (judged_site judged_in files listings) found start m → IsCertain ms start m)
    → CommandsEnd (judged_site judged_in files listings) found live now start
commands_end laws judged_in files listings ms found live now start over certain =
    let site = judged_site judged_in files listings in
    record {
      unloads = λ first name names begins of word words shell named asked.
          let o = laws.some (request_context_in standard shell files listings) now (unload (name ∷ names)) tt in
          let left = without_all (name ∷ names) live in
          ends_by files listings word shell words (unload (name ∷ names)) now (Leaves live left) (IsStillNeeded (entries_over first live) (entries_over first left)) o.0 named asked o.1
          (unloaded (AreLayered ms start) first live left o.0
          (laws.unloads site ms shell start now live first name names o.0 (record { over = over; loaded = begins; step = o.1 }) of));
      named_unloads = λ first name names begins of word words shell named asked.
          let o = laws.some (request_context_in standard shell files listings) now (unload (name ∷ names)) tt in
          let left = without_named (name ∷ names) live in
          ends_by files listings word shell words (unload (name ∷ names)) now (Leaves live left) (IsStillNeeded (entries_over first live) (entries_over first left)) o.0 named asked o.1
          (unloaded (AreLayered ms start) first live left o.0
          (laws.named site ms shell start now live first name names o.0 (record { over = over; loaded = begins; step = o.1 }) of));
      loads = λ name m finds suits reads word words shell named asked.
          let o = laws.some (request_context_in standard shell files listings) now (load (name ∷ [])) tt in
          let c = certain _ suits in
          ends_by files listings word shell words (load (name ∷ [])) now IsDone MayForbidLoad o.0 named asked o.1
          (loaded_so o.0 (laws.loads site ms shell start now live c.certain name m o.0 over.deterministic over.layered c.certified c.agrees
          (subst (ReadsEquivalently site now) (sym c.file) reads) finds (ap (λ (x : SiteModule). x.name) (sym c.file)) (ap (λ (x : SiteModule). x.path) (sym c.file)) o.1));
      reads = λ m reported unrelated.
          let c = certain m reported.suits in
          subst (ReadsEquivalently site now) c.file
          (laws.reads site ms start now live c.certain over.deterministic over.layered c.certified (subst (ReadsEquivalently site start) (sym c.file) reported.reads)
          (subst (IsUnrelated live) (sym c.file) unrelated));
      switches = λ old new first m begins of suits finds word words shell named asked.
          let o = laws.some (request_context_in standard shell files listings) now (switch old new) tt in
          let c = certain _ suits in
          ends_by files listings word shell words (switch old new) now IsDone MayForbidSwitch o.0 named asked o.1
          (switched_so o.0 (laws.switches site ms shell start now live first c.certain old new m o.0 over begins of c.certified c.agrees
          (ap (λ (x : SiteModule). x.name) (sym c.file)) (ap (λ (x : SiteModule). x.path) (sym c.file))
          (λ d unloads. let f = finds shell d unloads in (f.0, subst (ReadsEquivalently site d.env) (sym c.file) f.1)) o.1));
    }

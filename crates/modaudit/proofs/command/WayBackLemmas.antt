-- From the steps of requests to commands that lead back, and to the end of sessions.
use Rattle.std.proofs.Common.{◌≡◌, List, [], ◌∷◌, Some, Result, Ok, Err, refl, ap, sym, ◌∙◌, subst}
use Rattle.std.specs.Prelude.{codes}
use Rattle.envvars.specs.Texts.{Text}
use Rattle.envvars.specs.Environment.{Environment}
use Rattle.shelltext.specs.declared.shell.Shell.{Shell}
use Rattle.shelltext.specs.Shells.{shell_named}
use Rattle.shelltext.specs.Reading.{OneEffect, DifferenceMakes}
use Rattle.filetree.specs.Agreement.{Files, Listings}
use Rattle.modulefile.specs.Moves.{Module}
use Rattle.requests.specs.Laws as requests
use Rattle.requests.specs.Reasons.{RequestReason}
use Rattle.requests.specs.Requests.{RequestedAction, Request, unload, purge, request_of}
use Rattle.requests.specs.Steps.{Done, RequestStep, request_context_in}
use Rattle.requests.specs.hand_changes.Laws.{OneChangeHolds}
use Rattle.audit_certificate.specs.Candidates.{Candidate}
use Rattle.audit_certificate.specs.Laws.{NoneIsLayered}
use Rattle.audit_laws.specs.site.Laws.{SiteCommandsReturn, ChangesLeaveReads}
use Rattle.audit_laws.specs.returns.Unloads.{IsBack}
use Rattle.audit_laws.specs.returns.Laws.{UnloadsOfAllReturn, PurgesReturn, PurgesEndAsAtStart}
use Rattle.audit_laws.proofs.returns.Purges.{alike_back}
use Rattle.modulecmd.specs.Command.{CommandResult, CommandHasResult, standard, for_shell, by_shell}
use Rattle.modaudit.specs.command.SiteCommands.{judged_site}
use Rattle.modaudit.specs.command.WayBack.{LeavesLive, LeadsTo, IsWayBackOpen, SiteSessionsLayer, SiteWayBackIsOpen}
use Rattle.modaudit.proofs.command.SiteCommandLemmas.{step_at, site_events_stand}

-- a request whose step leads back is a command that does
pub leads : OneEffect → DifferenceMakes → (files : Files) (listings : Listings) (word : Text) (shell : Shell) (words : List Text) (action : RequestedAction) (e back : Environment)
    (o : Result Done RequestReason) → shell_named word ≡ Some shell → request_of words ≡ Ok action → RequestStep (request_context_in standard shell files listings) e action o
    → IsBack back o → LeadsTo files listings (word ∷ words) e back
leads one makes files listings word shell words action e back o named asked step (done, ends, made) = record {
  effect = (shell, done);
  accepted = (
    Ok (shell, action),
    sym (ap (by_shell word words) named ∙ ap (for_shell shell) asked),
    (Ok done, subst (RequestStep (request_context_in standard shell files listings) e action) ends step, refl),
  );
  made = made;
  run = λ text next says read. sym (one shell text e done.env next (makes shell text e done.env says) read) ∙ made;
}

-- the step of a purge that was accepted
purge_step : (word : Text) (shell : Shell) (e : Environment) (files : Files) (listings : Listings) (f : CommandResult) → shell_named word ≡ Some shell
    → CommandHasResult (word ∷ codes "purge" ∷ []) e files listings (Ok f) → RequestStep (request_context_in standard shell files listings) e purge (Ok f.1)
purge_step word shell e files listings f named (Err reason, is, h) = absurd (let q : Ok f ≡ Err reason = h in cc)
purge_step word shell e files listings f named (Ok r, is, (step, h, same)) =
    let asked : r ≡ (shell, purge) = (let q : Ok r ≡ Ok (shell, purge) = is ∙ ap (by_shell word (codes "purge" ∷ [])) named in cc) in
    subst (λ (x : Request). RequestStep (request_context_in standard x.0 files listings) e x.1 (Ok f.1)) asked (step_at e files listings r f step h same)

-- where certified modules are live over a start, the way back to it is open
pub is_way_back_open : OneEffect → DifferenceMakes → requests.SomeOutcome → PurgesReturn → PurgesEndAsAtStart → UnloadsOfAllReturn → (judged_in : Environment) (files : Files) (listings : Listings)
    (ms : List Candidate) (start back last : Environment) (live : List Module)
    → LeavesLive (judged_site judged_in files listings) ms start back last live → IsWayBackOpen files listings live last back
is_way_back_open one makes some purges alike unloads judged_in files listings ms start back last live left = record {
  purge = λ none word shell named.
      let o = some (request_context_in standard shell files listings) last purge tt in
      leads one makes files listings word shell (codes "purge" ∷ []) purge last back o.0 named refl o.1
      (purges (judged_site judged_in files listings) ms shell back last live o.0 left.over none o.1);
  purge_of_all = λ word shell effect named accepted.
      let o = some (request_context_in standard shell files listings) last purge tt in
      leads one makes files listings word shell (codes "purge" ∷ []) purge last effect.1.env o.0 named refl o.1
      (alike_back o.0 effect.1 (alike (judged_site judged_in files listings) ms shell back last live o.0 (Ok effect.1) left.over o.1
      (purge_step word shell back files listings effect named accepted)));
  unload = λ name names all_live word shell named.
      let o = some (request_context_in standard shell files listings) last (unload (name ∷ names)) tt in
      leads one makes files listings word shell (codes "unload" ∷ name ∷ names) (unload (name ∷ names)) last back o.0 named refl o.1
      (unloads (judged_site judged_in files listings) ms shell back last live all_live.first name names o.0
      (record { over = left.over; loaded = all_live.loaded; step = o.1 }) all_live.of_live all_live.all all_live.unneeded);
}

pub site_sessions_layer : NoneIsLayered → SiteCommandsReturn → OneEffect → DifferenceMakes → OneChangeHolds → ChangesLeaveReads → SiteSessionsLayer
site_sessions_layer begins returns one makes change leave judged_in files listings ms start last_start last events all session =
    let p = site_events_stand begins returns one makes change leave judged_in files listings ms start last_start last events all session.order session.reach session.new session.unread in
    record { over = record { deterministic = all; layered = p.0.0; reads = p.0.1 }; loaded = p.1 }

pub site_way_back_is_open : SiteSessionsLayer → OneEffect → DifferenceMakes → requests.SomeOutcome → PurgesReturn → PurgesEndAsAtStart → UnloadsOfAllReturn → SiteWayBackIsOpen
site_way_back_is_open layer one makes some purges alike unloads judged_in files listings ms start last_start last events all session =
    is_way_back_open one makes some purges alike unloads judged_in files listings ms start last_start last _
    (layer judged_in files listings ms start last_start last events all session)

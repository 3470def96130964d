-- The laws of certified modules of a site.
use Rattle.std.proofs.Common.{◌≡◌, true, List, [], ◌∷◌, refl, subst}
use Rattle.modulename.specs.ModuleName.{is_module_name}
use Rattle.envvars.specs.Environment.{Environment}
use Rattle.envstate.proofs.StateLemmas.{list_in_order}
use Rattle.modulefile.specs.Laws as files
use Rattle.modulefile.specs.Laws.{RecordsAreAllowed}
use Rattle.modulefile.specs.Moves.{Module}
use Rattle.requests.specs.Laws as requests
use Rattle.requests.specs.Sessions.{in_shell}
use Rattle.audit_certificate.specs.RecordUses.{IsAmong}
use Rattle.audit_certificate.specs.Candidates.{Candidate}
use Rattle.audit_certificate.specs.Laws.{AreLayered, CertifiedMovesPreserve}
use Rattle.audit_laws.specs.determinism.Laws.{UndoIsTested}
use Rattle.audit_laws.specs.site.Sites.{over_site}
use Rattle.audit_laws.specs.returns.Unloads.{without_all, IsAcceptedOrNeeded}
use Rattle.audit_laws.specs.returns.Laws.{UnloadsEnd, UnloadsAreAccepted, NamedUnloadsAreAccepted, UnloadsOfAllReturn, PurgesReturn, PurgesEndAsAtStart}
use Rattle.audit_laws.proofs.returns.LiveEntries.{live_spelled}
use Rattle.audit_laws.proofs.returns.NamesOfLive.{names_of_live}
use Rattle.audit_laws.proofs.returns.Unloads as Ends
use Rattle.audit_laws.proofs.returns.Unloads.{IsAny}
use Rattle.audit_laws.proofs.returns.Purges as Purges
use Rattle.audit_laws.proofs.returns.OneUnload.{IsSiteLayered, site_unloads}

-- the laws that these rest on
pub record Laws : Type 0 where
  pub one : files.OneOutcome
  pub allows : RecordsAreAllowed
  pub outcome : requests.OneOutcome
  pub tested : UndoIsTested
  pub preserve : CertifiedMovesPreserve

pub unloads_end : Laws → UnloadsEnd
unloads_end laws site ms shell start e live first name names o h of =
    Ends.ends_over (IsSiteLayered site ms start) (AreLayered ms start) first live (without_all (name ∷ names) live) o (λ now d over. over.0)
    (Ends.unloads_end laws.outcome (in_shell (over_site site) shell) start (IsSiteLayered site ms start) IsAny
    (site_unloads laws.one laws.allows laws.tested laws.preserve site ms shell start h.over.deterministic) e first live name names o
    (h.over.layered, h.over.reads) h.loaded of (λ m a. tt) h.step)

pub unloads_are_accepted : Laws → UnloadsAreAccepted
unloads_are_accepted laws site ms shell start e live first name names o h of =
    Ends.accepted_or_needed (AreLayered ms start) first live (without_all (name ∷ names) live) o
    (unloads_end laws site ms shell start e live first name names o h of)

pub named_unloads_are_accepted : Laws → NamedUnloadsAreAccepted
named_unloads_are_accepted laws site ms shell start e live first name names o h named =
    let layered = h.over.layered in
    let n = names_of_live e first live (name ∷ names) layered.order.loaded (layered.start_with_live.entries first h.loaded) named in
    subst (λ (left : List Module). IsAcceptedOrNeeded (AreLayered ms start) first live left o) n.1
    (unloads_are_accepted laws site ms shell start e live first name names o h n.0)

-- nothing is live: it is the start
nothing_live : CertifiedMovesPreserve → (ms : List Candidate) (start e : Environment) → AreLayered ms start [] e → e ≡ start
nothing_live preserve ms start e layered = (preserve ms start e e [] [] layered tt refl).1 refl

pub unloads_of_all_return : Laws → UnloadsOfAllReturn
unloads_of_all_return laws site ms shell start e live first name names o h of none unneeded =
    Ends.ends_back (AreLayered ms start) start first live (without_all (name ∷ names) live) o (nothing_live laws.preserve ms start) none unneeded
    (unloads_end laws site ms shell start e live first name names o h of)

spelled_live : (ms : List Candidate) (start e : Environment) (live : List Module) → AreLayered ms start live e → (l : Module) → IsAmong l live → is_module_name l.name ≡ true
spelled_live ms start e live layered l a =
    let first = list_in_order start layered.begins.order.loaded in
    live_spelled e first.0 live l layered.order.loaded (layered.start_with_live.entries first.0 first.1) a

pub purges_end_as_at_start : Laws → PurgesEndAsAtStart
purges_end_as_at_start laws site ms shell start e live o p h step at_start =
    Purges.purges_end_as_at_start laws.outcome (in_shell (over_site site) shell) start (IsSiteLayered site ms start) IsAny
    (site_unloads laws.one laws.allows laws.tested laws.preserve site ms shell start h.deterministic) (λ d over. nothing_live laws.preserve ms start d over.0) h.layered.begins.order.loaded
    e live o p (spelled_live ms start e live h.layered) (λ l a. tt) (h.layered, h.reads) step at_start

pub purges_return : Laws → PurgesReturn
purges_return laws site ms shell start e live o h begins step =
    Purges.purges_return laws.outcome (in_shell (over_site site) shell) start (IsSiteLayered site ms start) IsAny
    (site_unloads laws.one laws.allows laws.tested laws.preserve site ms shell start h.deterministic) (λ d over. nothing_live laws.preserve ms start d over.0) h.layered.begins.order.loaded
    e live o (spelled_live ms start e live h.layered) (λ l a. tt) (h.layered, h.reads) begins step

-- The causes of faults, and how an audit ends.
use Rattle.std.proofs.Common.{◌≡◌, ℕ, Bool, List, Option, None, Result, Ok, Err, subst, inl}
use Rattle.std.specs.Prelude.{IfErr}
use Rattle.envvars.specs.Texts.{Text}
use Rattle.envvars.specs.Environment.{Environment}
use Rattle.filetree.specs.Agreement.{Files, Listings}
use Rattle.envstate.specs.loaded_list.Loaded.{loaded_in}
use Rattle.envvars.specs.Reasons as edits
use Rattle.modulefile.specs.Judgments.{bad_edit}
use Rattle.requests.specs.Reasons.{RequestReason, refused_edit}
use Rattle.modules.specs.Answers.{cause_of}
use Rattle.tclrules.specs.declared.limits.Limits.{Limits}
use Rattle.audit_site.specs.Walks.{HasCause}
use Rattle.audit_site.specs.declared.fault.WalkFault.{WalkFault}
use Rattle.audit_site.specs.declared.fault.WalkFault.TheVariants as walks
use Rattle.modaudit.specs.command.Audits.{EndsJudged, WritesAudit, all_certified}
use Rattle.modaudit.specs.command.Steps.{IsPreparedAudit}
use Rattle.modaudit.specs.declared.command.layout.Layout.{Layout}
use Rattle.modaudit.specs.declared.command.running.PreparedAudit.{PreparedAudit}
use Rattle.modaudit.specs.declared.command.audit_exit.AuditExit.{AuditExit}
use Rattle.modaudit.proofs.command.DirectoryLemmas.{applies_in}

-- a cause of a walk holds of the whole, where what failed in the walk failed in the whole
pub cause_in : (agrees : Files → Listings → Type 0) (P Q : Type 0) (limits : Limits) (e : Environment)
    (fault : WalkFault) → (P → Q) → HasCause agrees P limits e fault → HasCause agrees Q limits e fault
cause_in agrees P Q limits e (walks.Refused refusal) f h = applies_in (cause_of refusal) P Q
    (λ (reason : RequestReason). (reason ≡ refused_edit (bad_edit edits.inconsistent)) × (loaded_in e ≡ None)) f h
cause_in agrees P Q limits e walks.TooManyDirectories f h = h

-- what follows on a failure
pub if_err_so : {X E : Type 0} (r : Result X E) (P Q : E → Type 0) → ((e : E) → P e → Q e) → IfErr r P → IfErr r Q
if_err_so (Ok x) P Q f h = tt
if_err_so (Err e) P Q f h = f e h

-- the end of an audit whose report was written, or the first part of it
pub answered : (exit : AuditExit) (layout : Layout) (agrees : Files → Listings → Type 0) (has_failed : Text → Bool) (before now : ℕ) (e : Environment) (not_utf8 arguments : List Text) (answer : PreparedAudit) (out out' err err' : Option Text)
    → IsPreparedAudit layout agrees has_failed before now e not_utf8 arguments answer → WritesAudit exit answer.is_all_certified answer.report.items out out' err err'
    → EndsJudged exit layout agrees has_failed before now e not_utf8 arguments out out' err err'
answered exit layout agrees has_failed before now e not_utf8 arguments answer out out' err err' is h =
    let audit = is.prepared.audit in
    let tried = is.prepared.tried in
    inl (
      is.wanted,
      audit,
      record {
        asked = is.asked;
        directories = tried.found.directories;
        begins = tried.found.begins;
        there = is.prepared.there;
        unreadable = tried.unreadable;
        exact = tried.found.exact;
        holds = tried.found.holds;
        tried = tried.tried;
        ended = tried.failed;
        counted = tried.counted;
        named = tried.named;
      },
      subst (λ (text : Text). WritesAudit exit (all_certified audit) text out out' err err') is.prepared.report
          (subst (λ (all : Bool). WritesAudit exit all answer.report.items out out' err err') is.prepared.certified h),
    )

use Rattle.std.proofs.Common.{Bool, ◌<◌, refl, sym, ap, ◌∙◌}
use Rattle.std.proofs.lemmas.Result.{err_from_is_err_and}
use Rattle.std.proofs.Common.{Option, map, option_map, string_bytes, String}
use Rattle.std.specs.declared.alloc.Global.{Global}
use Rattle.envvars.specs.Texts.{Text}
use Rattle.modules.specs.declared.refusal.Refusal.TheVariants.{OutOfMemory}
use Rattle.modaudit.specs.command.ArgumentViews.{wanted_view}
use Rattle.modaudit.specs.command.Audits.{HasFailedOften, IsAuditFault, IsSiteFault, judged_env, no_memory, of_site, unknown_option}
use Rattle.modaudit.specs.declared.command.arguments.AuditArguments.{AuditArguments}
use Rattle.modaudit.proofs.command.AuditLemmas.{if_err_so}
use Rattle.modaudit.specs.command.Looked.{AuditCommandLooksAt, JudgedLooksAt}
use Rattle.modaudit.proofs.command.ReadableLemmas.{reads_nothing, reads_wider}
use Rattle.modaudit.proofs.command.running.answer_of.Goals as goal

pub returns-in_err-wanted_of-clause-refused : goal.returns-in_err-wanted_of-clause-refused
returns-in_err-wanted_of-clause-refused g c =
    let p = err_from_is_err_and c.from_residual.result c.from_residual.ensures.1 in
    rw (p.1, p.2) (no_memory OutOfMemory refl)

pub returns-in-None-clause-refused : goal.returns-in-None-clause-refused
returns-in-None-clause-refused g c = unknown_option (sym c.in_ok-wanted_of.ensures ∙ ap (λ (o : Option AuditArguments). option_map wanted_view o) c.in-None.is)

pub returns-in-Some-clause-refused : goal.returns-in-Some-clause-refused
returns-in-Some-clause-refused g c =
    let tree = c.prepare.new.tree in
    let agrees = g.T.Tree.agrees tree.tree in
    let has_failed : Text → Bool = g.T.Tree.failed tree.tree in
    let often = (g.T.Tree.failures c.args.tree.now.tree < g.T.Tree.failures tree.tree) × HasFailedOften has_failed (g.T.Tree.failures tree.tree) in
    let arguments = map (λ (s : String Global). string_bytes s) c.args.args.now in
    let wanted = wanted_view c.in-Some.wanted in
    let asked = sym c.in_ok-wanted_of.ensures ∙ ap (λ (o : Option AuditArguments). option_map wanted_view o) c.in-Some.is in
    if_err_so c.prepare.result (IsSiteFault agrees has_failed often (judged_env c.args.env wanted.directories) wanted.directories) (IsAuditFault agrees has_failed often c.args.env arguments)
    (λ fault h. of_site wanted fault asked h) c.prepare.ensures.refused

pub returns-in-Some-clause-reads : goal.returns-in-Some-clause-reads
returns-in-Some-clause-reads g c =
    let wanted = wanted_view c.in-Some.wanted in
    let asked = sym c.in_ok-wanted_of.ensures ∙ ap (λ (o : Option AuditArguments). option_map wanted_view o) c.in-Some.is in
    reads_wider g.T.Tree.agrees g.T.Tree.failures g.T.Tree.failed c.args.tree.now.tree c.prepare.new.tree.tree (JudgedLooksAt (judged_env c.args.env wanted.directories) wanted.directories)
    (AuditCommandLooksAt c.args.env (map (λ (s : String Global). string_bytes s) c.args.args.now)) (λ files listings at h. (wanted, asked, h)) c.prepare.ensures.reads

pub returns-in-None-clause-reads : goal.returns-in-None-clause-reads
returns-in-None-clause-reads g c = reads_nothing g.T.Tree.agrees g.T.Tree.failures g.T.Tree.failed c.args.tree.now.tree _

pub returns-in_err-wanted_of-clause-reads : goal.returns-in_err-wanted_of-clause-reads
returns-in_err-wanted_of-clause-reads g c = reads_nothing g.T.Tree.agrees g.T.Tree.failures g.T.Tree.failed c.args.tree.now.tree _

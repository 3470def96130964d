use Rattle.std.proofs.Common.{◌≡◌, false, OnOk, map, refl, sym, subst}
use Rattle.envstate.specs.loaded_list.LoadedEntries.{entry_view}
use Rattle.modules.specs.declared.step.NameAction.{NameAction}
use Rattle.modules.specs.declared.step.NameAction.TheVariants.{Load, Unload, ReportOn}
use Rattle.modules.specs.Views.{request_context_of, done_view}
use Rattle.modules.specs.Parts.{NameActionStep, NameActionLooksAt, may_lose}
use Rattle.modules.proofs.NeedLemmas.{loses_otherwise}
use Rattle.modules.proofs.TreeAnswers.{answers_of}
use Rattle.modules.proofs.step.act_on_name.Goals as goal

pub returns-in-Load-clause-done : goal.returns-in-Load-clause-done
returns-in-Load-clause-done g c =
    let d = done_view c.args.progress.now.done (g.V.Vars.vars c.args.env.now) in
    answers_of c.args.name_action Load c.in-Load.is (λ (u : Unit {0}). done_view c.load_name.new.progress.done (g.V.Vars.vars c.load_name.new.env)) c.load_name.result
    (λ (action : NameAction) files listings. NameActionStep action (request_context_of c.args.settings files listings) c.args.typed.now d)
    (λ (action : NameAction) files listings. NameActionLooksAt action (request_context_of c.args.settings files listings) c.args.typed.now d) c.load_name.ensures.loaded

pub returns-in-Unload-clause-done : goal.returns-in-Unload-clause-done
returns-in-Unload-clause-done g c =
    let d = done_view c.args.progress.now.done (g.V.Vars.vars c.args.env.now) in
    answers_of c.args.name_action Unload c.in-Unload.is (λ (u : Unit {0}). done_view c.unload_name.new.progress.done (g.V.Vars.vars c.unload_name.new.env)) c.unload_name.result
    (λ (action : NameAction) files listings. NameActionStep action (request_context_of c.args.settings files listings) c.args.typed.now d)
    (λ (action : NameAction) files listings. NameActionLooksAt action (request_context_of c.args.settings files listings) c.args.typed.now d) c.unload_name.ensures.unloaded

pub returns-in-ReportOn-clause-done : goal.returns-in-ReportOn-clause-done
returns-in-ReportOn-clause-done g c =
    let d = done_view c.args.progress.now.done (g.V.Vars.vars c.args.env.now) in
    answers_of c.args.name_action (ReportOn c.in-ReportOn.report_kind) c.in-ReportOn.is
    (λ (u : Unit {0}). done_view c.report_name.new.progress.done (g.V.Vars.vars c.report_name.new.env))
    c.report_name.result
    (λ (action : NameAction) files listings. NameActionStep action (request_context_of c.args.settings files listings) c.args.typed.now d)
    (λ (action : NameAction) files listings. NameActionLooksAt action (request_context_of c.args.settings files listings) c.args.typed.now d) c.report_name.ensures.reported

pub load_name-requires : goal.load_name-requires
load_name-requires g c = c.requires

pub unload_name-requires : goal.unload_name-requires
unload_name-requires g c = c.requires

pub report_name-requires : goal.report_name-requires
report_name-requires g c = c.requires

pub returns-in-Load-clause-listed : goal.returns-in-Load-clause-listed
returns-in-Load-clause-listed g c = c.load_name.ensures.listed

pub returns-in-Unload-clause-listed : goal.returns-in-Unload-clause-listed
returns-in-Unload-clause-listed g c = c.unload_name.ensures.listed

pub returns-in-ReportOn-clause-listed : goal.returns-in-ReportOn-clause-listed
returns-in-ReportOn-clause-listed g c = c.report_name.ensures.listed

pub returns-in-Load-clause-free : goal.returns-in-Load-clause-free
returns-in-Load-clause-free g c =
    loses_otherwise c.load_name.result c.args.name_action Load (map entry_view c.args.progress.now.list.entries.items)
    (map entry_view c.load_name.new.progress.list.entries.items) c.in-Load.is refl

pub returns-in-Unload-clause-free : goal.returns-in-Unload-clause-free
returns-in-Unload-clause-free g c =
    let xs = map entry_view c.args.progress.now.list.entries.items in
    let ys = map entry_view c.unload_name.new.progress.list.entries.items in
    subst (λ (a : NameAction). OnOk c.unload_name.result (may_lose a xs ≡ false → may_lose a ys ≡ false)) (sym c.in-Unload.is) c.unload_name.ensures.free

pub returns-in-ReportOn-clause-free : goal.returns-in-ReportOn-clause-free
returns-in-ReportOn-clause-free g c =
    loses_otherwise c.report_name.result c.args.name_action (ReportOn c.in-ReportOn.report_kind) (map entry_view c.args.progress.now.list.entries.items)
    (map entry_view c.report_name.new.progress.list.entries.items) c.in-ReportOn.is refl

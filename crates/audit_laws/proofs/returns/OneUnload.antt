-- The unload of one live module of a site is accepted.
use Rattle.std.proofs.Common.{◌≡◌, Bool, true, List, [], ◌∷◌, Some, Ok, ap, sym, ◌∙◌, subst, refl}
use Rattle.envvars.specs.Texts.{Text}
use Rattle.envvars.specs.Environment.{Environment}
use Rattle.envstate.specs.loaded_list.Loaded.{Entry, loaded_in}
use Rattle.envstate.proofs.StateLemmas.{list_in_order}
use Rattle.shelltext.specs.declared.shell.Shell.{Shell}
use Rattle.filetree.specs.Modulefiles.{script, modulefile}
use Rattle.modulefile.specs.Records.{Record}
use Rattle.modulefile.specs.Effects.{Mode, unload, effects}
use Rattle.modulefile.specs.Moves.{Module, Unloads}
use Rattle.modulefile.specs.Answers.{FileContext, any_loaded}
use Rattle.modulefile.specs.Laws as files
use Rattle.modulefile.specs.Laws.{RecordsAreAllowed}
use Rattle.reversal.specs.Live.{entries_over}
use Rattle.reversal.specs.Undone.{undo_of, UndoEquivalently}
use Rattle.reversal.specs.Runs.{live_named, without_live}
use Rattle.requests.specs.Steps.{Done}
use Rattle.requests.specs.Sessions.{in_shell}
use Rattle.audit_certificate.specs.RecordUses.{IsAmong}
use Rattle.audit_certificate.specs.Candidates.{Candidate}
use Rattle.audit_certificate.specs.Laws.{AreLayered, CertifiedMovesPreserve}
use Rattle.audit_laws.specs.determinism.StableInput.{asks_mode, asks_shell, is_changing, variables_read, IsSameContext, AreEquivalent}
use Rattle.audit_laws.specs.determinism.LoadedAnswers.{questions_tried}
use Rattle.audit_laws.specs.determinism.Laws.{UndoIsTested}
use Rattle.audit_laws.specs.site.Sites.{Site, over_site, ReadsEquivalently, candidate_file}
use Rattle.audit_laws.specs.site.Laws.{AreDeterministic, AreReadEquivalently}
use Rattle.audit_laws.proofs.site.Evaluations.{evaluated}
use Rattle.audit_laws.specs.returns.Files.{leaving}
use Rattle.audit_laws.proofs.site.Chosen.{loaded_by, chosen_alike, all_loaded}
use Rattle.audit_laws.proofs.site.Covered.{matched, is_way, are_tried, in_way}
use Rattle.audit_laws.proofs.site.LiveReads.{named_among, live_certified, certain_records, same_file, left_alike, reads_as_start, live_free}
use Rattle.audit_laws.proofs.returns.LiveStacks.{live_stacks}
use Rattle.audit_laws.proofs.returns.LiveEntries.{live_spelled, RunsAgain, unload_context, unloads_entry}
use Rattle.audit_laws.proofs.returns.UnloadEffects.{CanReadStacks, unloads_had}
use Rattle.audit_laws.proofs.returns.RunAgain.{files_run_again}
use Rattle.audit_laws.proofs.returns.Unloads.{CanUnload, UnloadsLive, IsAny}

first_of : (ms : List Candidate) (start e : Environment) (live : List Module) → AreLayered ms start live e → (first : List Entry) × (loaded_in e ≡ Some (entries_over first live))
first_of ms start e live layered = let b = list_in_order start layered.begins.order.loaded in (b.0, layered.start_with_live.entries b.0 b.1)

had_by : (mode : Mode) (name owner : Text) (rs : List Record) (e : Environment) → mode ≡ unload → name ≡ owner → (new : Environment) × (effects unload owner rs e ≡ Ok new)
    → (new : Environment) × (effects mode name rs e ≡ Ok new)
had_by mode name owner rs e m n h = (h.0, (λ i. effects (m i) (n i) rs e) ∙ h.1)

pub runs_for_unload : files.OneOutcome → RecordsAreAllowed → UndoIsTested → (site : Site) (ms : List Candidate) (live : List Module) (start : Environment) (l : Module) (d : FileContext)
    → AreDeterministic site ms → AreLayered ms start live d.before → AreReadEquivalently site start live → IsAmong l live → d.mode ≡ unload → d.name ≡ l.name → d.path ≡ l.path
    → RunsAgain (over_site site) d l
runs_for_unload one allows tested site ms live start l d all layered alike among mode name path =
    let c = live_certified ms live l layered.together among in
    let m = candidate_file c.certain in
    let p = certain_records site ms c.certain all c.certified in
    let asked = p.runs.first.asked in
    let questions = questions_tried asked in
    let loaded = d.loaded in
    let changing : is_changing d.mode ≡ true = ap is_changing mode in
    let found = matched (asks_mode asked) (asks_shell asked) d.mode d.in_switch d.shell (loaded_by loaded questions) changing in
    let way = found.1 in
    let there = in_way tested site m p.runs found.0 p.evaluated p.deterministic
    (is_way (asks_mode asked) (asks_shell asked) d.mode d.in_switch d.shell questions loaded found.0 way) in
    let a = evaluated site found.0 m there.ran there.evaluated in
    let same_way : IsSameContext there.ran.asked a.context d = record {
      mode = λ t. sym (a.mode ∙ way.mode (there.of_mode t));
      in_switch = λ t. sym (a.in_switch ∙ way.in_switch (there.of_mode t));
      shell = λ t. sym (a.shell ∙ way.shell (there.of_shell t));
      loaded = all_loaded (λ names. any_loaded names loaded ≡ any_loaded names a.context.loaded) there.ran.records there.ran.asked there.rested (λ n ns i.
          sym (ap (any_loaded (n ∷ ns)) (a.loaded ∙ way.with_loaded)
          ∙ chosen_alike loaded questions n ns (subst (IsAmong (n ∷ ns)) (are_tried site m p.runs p.evaluated p.deterministic) (there.of_loaded (n ∷ ns) i))));
    } in
    let reads : ReadsEquivalently site start m = subst (ReadsEquivalently site start) (sym (same_file l c.certain c.name c.path)) (alike l among) in
    let now : ReadsEquivalently site d.before m = reads_as_start one site ms live start d.before c.certain all layered c.certified
    (live_free ms live l c.certain c.name c.path layered.together among) reads in
    let values : AreEquivalent (variables_read there.ran.asked) a.context.before d.before =
    subst (λ (e : Environment). AreEquivalent (variables_read there.ran.asked) e d.before) (sym a.before)
    (λ v h. now v (record { runs = p.runs; evaluated = p.evaluated; read = there.reads v h })) in
    let undoes : UndoEquivalently there.ran.records l.records =
    subst (λ (xs : List Record). UndoEquivalently there.ran.records xs) (sym p.records) there.undoes ∙ sym c.alike in
    let stacks : CanReadStacks d.before (undo_of there.ran.records) = subst (CanReadStacks d.before) (sym undoes) (live_stacks ms live start d.before l layered among) in
    let had = had_by d.mode d.name l.name there.ran.records d.before mode name
    (unloads_had l.name there.ran.records d.before (live_spelled d.before (first_of ms start d.before live layered).0 live l layered.order.loaded (first_of ms start d.before live layered).1 among) (allows site.limits a.context a.text there.ran a.runs) stacks) in
    record {
      text = a.text;
      file = subst (λ (t : Text). modulefile (site.files t) ≡ script a.text) c.path a.file;
      ran = leaving had.0 there.ran;
      runs = files_run_again site.limits a.context d a.text there.ran had.0 a.runs there.rested (ap is_changing a.mode ∙ way.changing) changing same_way values
          (name ∙ sym c.name ∙ sym a.named) (path ∙ sym c.path ∙ sym a.at_path) had.1;
      made = had.1;
      undoes = undoes;
    }

-- ---- certified modules that are live can be unloaded

abbrev pub IsSiteLayered : Site → List Candidate → Environment → List Module → Environment → Type 0
IsSiteLayered site ms start live e = AreLayered ms start live e × AreReadEquivalently site start live

unloads_live : files.OneOutcome → RecordsAreAllowed → UndoIsTested → CertifiedMovesPreserve → (site : Site) (ms : List Candidate) (shell : Shell) (start : Environment) → AreDeterministic site ms
    → (in_switch : Bool) (live : List Module) (first : List Entry) (l : Module) (typed : Text) (d : Done) → IsSiteLayered site ms start live d.env → live_named l.name live ≡ Some l
    → loaded_in d.env ≡ Some (entries_over first live)
    → UnloadsLive (in_shell (over_site site) shell) in_switch (IsSiteLayered site ms start) live l typed d (entries_over first live)
unloads_live one allows tested preserve site ms shell start all in_switch live first l typed d over named list =
    let s = in_shell (over_site site) shell in
    let among = named_among l.name l live named in
    let c : FileContext = unload_context s in_switch l typed (entries_over first live) d.env in
    let r = runs_for_unload one allows tested site ms live start l c all over.0 over.1 among refl refl refl in
    let u = unloads_entry s in_switch live first l typed d named among list (record { text = r.text; file = r.file; ran = r.ran; runs = r.runs; made = r.made; undoes = r.undoes }) in
    let h = preserve ms start d.env u.done.env live (Unloads u.unloaded ∷ []) over.0 (u.undoes, tt) u.reach in
    record {
      done = u.done;
      step = u.step;
      over = (subst (λ (n : Text). AreLayered ms start (without_live n live) u.done.env) u.name h.0, left_alike site start live l.name over.1);
      unloaded = u.unloaded;
      name = u.name;
      moves = u.moves;
    }

pub site_unloads : files.OneOutcome → RecordsAreAllowed → UndoIsTested → CertifiedMovesPreserve → (site : Site) (ms : List Candidate) (shell : Shell) (start : Environment) → AreDeterministic site ms
    → CanUnload (in_shell (over_site site) shell) start (IsSiteLayered site ms start) IsAny
site_unloads one allows tested preserve site ms shell start all = record {
  entries = λ live e first begins over. over.0.start_with_live.entries first begins;
  unloads = λ in_switch live first l typed d over any. unloads_live one allows tested preserve site ms shell start all in_switch live first l typed d over;
}

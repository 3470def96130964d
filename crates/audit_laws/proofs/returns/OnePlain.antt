-- One plain module is unloaded, whatever else is loaded.
use Rattle.std.proofs.Common.{◌≡◌, inl, inr, true, false, List, [], ◌∷◌, Option, Some, None, Result, Ok, Err, refl, ap, sym, ◌∙◌, subst}
use Rattle.std.proofs.Common.{find, reverse}
use Rattle.std.specs.Option.{option_map}
use Rattle.std.proofs.lemmas.List.{reverse-append}
use Rattle.modulename.specs.ModuleName.{is_module_name, means}
use Rattle.envvars.specs.Environment.{Environment}
use Rattle.envvars.specs.Reasons.{EnvReason}
use Rattle.envstate.specs.loaded_list.Loaded.{Entry, names_of, loaded_in, without_entry, dropped_loaded}
use Rattle.envstate.proofs.StateLemmas.{dropped_list}
use Rattle.modulefile.specs.Judgments.{RecordReason}
use Rattle.modulefile.specs.Results.{◌>>=◌}
use Rattle.modulefile.specs.Effects.{unload, effects, edit_outcome}
use Rattle.modulefile.specs.Moves.{Module, Unloads, entry_moved, moved}
use Rattle.modulefile.specs.Answers.{FileContext}
use Rattle.modulefile.specs.Files.{Ran}
use Rattle.modulefile.specs.Laws.{RecordsAreAllowed}
use Rattle.modulefile.proofs.Effected.{parts}
use Rattle.reversal.specs.VariableUses.{Stacked}
use Rattle.reversal.proofs.Frames.{effects_leave_list}
use Rattle.requests.specs.Laws as requests
use Rattle.requests.specs.Refusals.{refused_as, unless}
use Rattle.requests.specs.Reasons.{RequestReason, refused_edit, still_needed_by}
use Rattle.requests.specs.Requests as actions
use Rattle.requests.specs.Conditions.{has_lost, end_objection}
use Rattle.requests.specs.Steps.{Done, nothing_done, with_move, consistent, context_of, module_of, script_at, UnloadsEntry, UnloadsName, RequestStep}
use Rattle.audit_certificate.specs.RecordUses.{IsAmong}
use Rattle.audit_certificate.proofs.UsedLemmas.{by_cases, among_either}
use Rattle.audit_certificate.proofs.Exact.{all_each}
use Rattle.audit_laws.specs.returns.Files.{leaving}
use Rattle.audit_laws.specs.returns.Unloads.{IsUnloadedOrNeeded}
use Rattle.audit_laws.specs.returns.Laws.{OnePlainIsUnloaded}
use Rattle.audit_laws.proofs.returns.LiveEntries.{sound_list, in_map, move_had}
use Rattle.audit_laws.proofs.returns.RunAgain.{plain_files_run_again}
use Rattle.audit_laws.proofs.returns.UnloadEffects.{unloads_had, used_of_seen}
use Rattle.audit_laws.proofs.returns.Unloads.{named_step, found_among}

among_reverse : (x : Entry) (xs : List Entry) → IsAmong x (reverse xs) → IsAmong x xs
among_reverse x [] a = a
among_reverse x (y ∷ ys) a =
    by_cases (among_either x (reverse ys) (y ∷ []) (subst (IsAmong x) (reverse-append (y ∷ []) ys) a))
    (λ k. inr (among_reverse x ys k))
    (λ k. by_cases k (λ e. inl e) (λ none. absurd none))

edit_made : (r : Result Environment EnvReason) (new : Environment) → edit_outcome r ≡ Ok new → r ≡ Ok new
edit_made (Ok e) new h = let same : e ≡ new = cc in ap (λ (k : Environment). Ok k) same
edit_made (Err reason) new h = absurd (cc)

-- the module's entry is gone
gone : (m : Module) (e new : Environment) (xs : List Entry) → loaded_in e ≡ Some xs → moved (Unloads m) e ≡ Ok new → loaded_in new ≡ Some (without_entry m.name xs)
gone m e new xs list made =
    let p = parts (effects unload m.name m.records e) (entry_moved (Unloads m)) new made in
    dropped_list p.0 new m.name xs (effects_leave_list unload m.name m.records e p.0 p.1 ∙ list) (edit_made (dropped_loaded p.0 m.name) new p.2)

unloaded_or_needed : (m : Module) (before after : List Entry) (done : Done) (x : Option Entry) → find (has_lost before after) after ≡ x → done.moves ≡ Unloads m ∷ []
    → IsUnloadedOrNeeded m before after (unless (option_map (λ y. still_needed_by y.name) x) (Ok done))
unloaded_or_needed m before after done None h moves = moves
unloaded_or_needed m before after done (Some x) h moves = let k = found_among (has_lost before after) after x h in (x, k.0, k.1, refl)

pub one_plain_is_unloaded : RecordsAreAllowed → requests.OneOutcome → OnePlainIsUnloaded
one_plain_is_unloaded allows outcome s e xs x ran name o order list spelled meant left none stacks step =
    let there : IsAmong x xs = among_reverse x xs (found_among (λ y. means name y.name) (reverse xs) x meant).0 in
    let sound = sound_list e xs order list in
    let own : is_module_name x.name ≡ true = all_each is_module_name (names_of xs) sound.names x.name (in_map (λ (y : Entry). y.name) x xs there) in
    let c : FileContext = context_of s unload false name x.name x.path xs e in
    let had = unloads_had x.name ran.records e own (allows s.limits left.context left.text ran left.runs) (λ w f u. stacks w (used_of_seen (w, Stacked) ran.records u)) in
    let again : Ran = leaving had.0 ran in
    let runs = plain_files_run_again s.limits left.context c left.text ran had.0 left.runs none (sym left.named) (sym left.at_path) had.1 in
    let m : Module = module_of x.name x.path ran in
    let mv = move_had m e had.0 xs list had.1 in
    let done : Done = with_move (nothing_done e) (Unloads m) ran.messages mv.0 in
    let entry : UnloadsEntry s false name (nothing_done e) xs x (Ok done) = (
      Ok left.text,
      sym (ap (script_at x.path) left.file),
      (
        Ok again,
        (Ok again, runs, refl),
        sym (ap (λ (r : Result Environment RecordReason). refused_as refused_edit r >>= (λ k. Ok (with_move (nothing_done e) (Unloads m) ran.messages k))) mv.1),
      ),
    ) in
    let by_name : UnloadsName s false name (nothing_done e) (Ok done) = named_step s false name (nothing_done e) done xs (Some x) list spelled meant entry in
    let after = without_entry x.name xs in
    let result : Result Done RequestReason = unless (end_objection xs after) (Ok done) in
    let whole : RequestStep s e (actions.unload (name ∷ [])) result = (
      Ok xs,
      sym (ap consistent list),
      (Ok done, (Ok done, by_name, refl), (Ok after, sym (ap consistent (gone m e mv.0 xs list mv.1)), refl)),
    ) in
    subst (IsUnloadedOrNeeded m xs after) (sym (outcome s e (actions.unload (name ∷ [])) o result step whole))
    (unloaded_or_needed m xs after done (find (has_lost xs after) after) refl refl)

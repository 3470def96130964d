-- A switch from a live module to a certified one is accepted, or forbidden as a load is or by what is still needed.
use Rattle.std.proofs.Common.{◌≡◌, inl, inr, true, List, [], ◌∷◌, ◌++◌, Option, Some, None, Result, Ok, Err, refl, ap, sym, ◌∙◌, subst}
use Rattle.std.proofs.Common.{find}
use Rattle.std.specs.Option.{option_map}
use Rattle.modulename.specs.ModuleName.{is_module_name}
use Rattle.envvars.specs.Texts.{Text}
use Rattle.envvars.specs.Environment.{Environment}
use Rattle.envstate.specs.loaded_list.Loaded.{Entry, loaded_in, is_path}
use Rattle.filetree.specs.Modulefiles.{script, modulefile}
use Rattle.filetree.specs.Relations.{Then}
use Rattle.modulefile.specs.Laws as files
use Rattle.reversal.specs.Live.{entries_over}
use Rattle.requests.specs.Refusals.{unless}
use Rattle.requests.specs.Reasons.{RequestReason, still_needed_by}
use Rattle.requests.specs.Requests.{switch}
use Rattle.requests.specs.Conditions.{has_lost, end_objection}
use Rattle.requests.specs.Steps.{RequestContext, Done, nothing_done, consistent, LoadsName, UnloadsName, EndsRequest, Switches, old_name}
use Rattle.requests.specs.Sessions.{in_shell}
use Rattle.audit_certificate.specs.Laws.{CertifiedMovesPreserve}
use Rattle.audit_laws.specs.site.Sites.{over_site, candidate_file}
use Rattle.audit_laws.specs.returns.Unloads.{without_meant}
use Rattle.audit_laws.specs.returns.Loads.{IsSwitchedOrForbidden}
use Rattle.audit_laws.specs.returns.Laws.{SwitchesAreAccepted}
use Rattle.audit_laws.proofs.returns.LoadEntry.{site_path}
use Rattle.audit_laws.proofs.returns.Unloads.{one_name, IsAny}
use Rattle.audit_laws.proofs.returns.OneUnload.{IsSiteLayered, site_unloads}
use Rattle.audit_laws.proofs.returns.Loads as Loads
use Rattle.audit_laws.proofs.returns.Loads.{LoadEnd, same, loads, forbidden, load_context, found_script, file_loads, found_loads, name_loads}

-- what may object at the end is that a module has lost what it needs
may_object : (o : Option Entry) (done : Done) → IsSwitchedOrForbidden (unless (option_map (λ x. still_needed_by x.name) o) (Ok done))
may_object None done = tt
may_object (Some x) done = inr (x.name, refl)

-- the request has such an outcome
record SwitchesSo (s : RequestContext) (e : Environment) (before : List Entry) (old : Option Text) (new : Text) : Type 0 where
  outcome : Result Done RequestReason
  ends_well : IsSwitchedOrForbidden outcome
  step : Then (Switches s old new (nothing_done e)) (EndsRequest before) outcome

accepted_so : (s : RequestContext) (e : Environment) (before after : List Entry) (old : Option Text) (new : Text) (d last : Done) → UnloadsName s true (old_name old new) (nothing_done e) (Ok d)
    → LoadsName s true new d (Ok last) → loaded_in last.env ≡ Some after → SwitchesSo s e before old new
accepted_so s e before after old new d last unloads step now = record {
  outcome = unless (end_objection before after) (Ok last);
  ends_well = may_object (find (has_lost before after) after) last;
  step = (Ok last, (Ok d, unloads, step), (Ok after, sym (ap consistent now), refl));
}

switches_so : (s : RequestContext) (e : Environment) (before xs : List Entry) (old : Option Text) (new : Text) (d : Done) (r : Result Done RequestReason)
    → UnloadsName s true (old_name old new) (nothing_done e) (Ok d) → loaded_in d.env ≡ Some xs → LoadsName s true new d r → LoadEnd d xs r → SwitchesSo s e before old new
switches_so s e before xs old new d r unloads list step same = accepted_so s e before xs old new d d unloads step list
switches_so s e before xs old new d r unloads list step (loads last y now absent) = accepted_so s e before (xs ++ y ∷ []) old new d last unloads step now
switches_so s e before xs old new d r unloads list step (forbidden reason may) = record {
  outcome = Err reason;
  ends_well = inl may;
  step = (Err reason, (Ok d, unloads, step), refl);
}

pub switches_are_accepted : Loads.Laws → files.OneOutcome → CertifiedMovesPreserve → SwitchesAreAccepted
switches_are_accepted laws one preserve site ms shell start e live first c old new m o live_over begins of certain agrees same_name same_path finds step =
    let s = in_shell (over_site site) shell in
    let all = live_over.deterministic in
    let layered = live_over.layered in
    let alike = live_over.reads in
    let can = site_unloads one laws.allows laws.tested preserve site ms shell start all in
    let u = one_name s true start (IsSiteLayered site ms start) IsAny can live live first (old_name old new) (nothing_done e) begins of.0 of.1 (λ l h. tt)
    (record { over = (layered, alike); moved = refl }) in
    let left = without_meant (old_name old new) live in
    let now = u.way.over in
    let list : loaded_in u.done.env ≡ Some (entries_over first left) = can.entries left u.done.env first begins now in
    let there = finds u.done u.step in
    let of_site = (all c certain.listed).of_site in
    let spelled : is_module_name m.name ≡ true = ap is_module_name same_name ∙ of_site.there.below.spelled in
    let path : is_path m.path ≡ true = ap is_path same_path ∙ site_path site (candidate_file c) of_site in
    let file : modulefile (site.files c.path) ≡ script m.text = subst (λ (t : Text). modulefile (site.files t) ≡ script m.text) same_path (found_script s u.done.env new m there.0) in
    let each = file_loads laws site ms shell left start c (load_context s true new m (entries_over first left) u.done.env) m.text all now.0 certain agrees there.1 refl same_name same_path file in
    let k = name_loads s true new u.done (entries_over first left) m list there.0 (found_loads laws site shell true new u.done (entries_over first left) m list spelled path each) in
    let whole = switches_so s e (entries_over first live) (entries_over first left) old new u.done k.result u.step list k.step k.ends_so in
    let ended = laws.outcome s e (switch old new) o whole.outcome step (Ok (entries_over first live), sym (ap consistent (can.entries live e first begins (layered, alike))), whole.step) in
    subst IsSwitchedOrForbidden (sym ended) whole.ends_well

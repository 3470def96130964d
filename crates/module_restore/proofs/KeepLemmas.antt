-- What is kept, by what was read and purged.
use Rattle.std.proofs.Common.{◌≡◌, List, Option, Some, None, IfSome, Result, Ok, Err, refl, sym, ap, subst, ◌∙◌}
use Rattle.envvars.specs.Texts.{Text}
use Rattle.envvars.specs.Environment.{Environment}
use Rattle.envvars.specs.Fields.{without_repeats}
use Rattle.envstate.specs.loaded_list.Loaded.{Entry, names_of}
use Rattle.module_collections.specs.texts.Lines.{Kept}
use Rattle.filetree.specs.Causes.{Applies, Cause, memory, device, because}
use Rattle.module_words.specs.modulepath.Faults.{PathReason}
use Rattle.requests.specs.Reasons.{RequestReason}
use Rattle.requests.specs.Requests.{purge}
use Rattle.requests.specs.Steps.{RequestContext, Done, RequestStep, entries_of}
use Rattle.module_restore.specs.Answers.{by_path, by_request}
use Rattle.module_restore.specs.Saves.{Keeps, KeepReason, kept, no_path, paths_in, refused_for}
use Rattle.module_restore.specs.Views.{loaded_names, named}

-- a cause of a request is one of the whole
pub request_stands : (c : Cause RequestReason) (failed before : Type 0) (P : RequestReason → Type 0) (Q : KeepReason → Type 0) → (failed → before)
    → ((r : RequestReason) → P r → Q (refused_for r)) → Applies c failed P → Applies (by_request c) before Q
request_stands memory failed before P Q later then h = tt
request_stands device failed before P Q later then h = later h
request_stands (because r) failed before P Q later then h = then r h

pub path_stands : (reason : Option PathReason) (before : Type 0) (P : PathReason → Type 0) (Q : KeepReason → Type 0)
    → ((r : PathReason) → P r → Q (no_path r)) → IfSome reason P → Applies (by_path reason) before Q
path_stands None before P Q then h = tt
path_stands (Some r) before P Q then h = then r h

-- want of memory
pub wanting : (c : Cause RequestReason) (before : Type 0) (Q : KeepReason → Type 0) → c ≡ memory → Applies (by_request c) before Q
wanting memory before Q h = tt
wanting device before Q h = absurd (cc)
wanting (because r) before Q h = absurd (cc)

unread_by : (s : RequestContext) (w : Option Text) (e : Environment) (r : RequestReason) (found : Result (List Entry) RequestReason) → entries_of e ≡ found → Err r ≡ named found
    → Keeps s w e (Err (refused_for r))
unread_by s w e r (Ok entries) is h = absurd (cc)
unread_by s w e r (Err q) is h =
    let same : r ≡ q = cc in
    let whole : KeepReason = refused_for r in
    (Err whole, (Err q, sym is, ap (λ (x : RequestReason). let o : Result (List Entry) KeepReason = Err (refused_for x) in o) same), refl)

-- lists that can't be read
pub unread : (s : RequestContext) (w : Option Text) (e : Environment) (r : RequestReason) → Err r ≡ loaded_names e → Keeps s w e (Err (refused_for r))
unread s w e r h = unread_by s w e r (entries_of e) refl h

module _ (s : RequestContext) (w : Option Text) (e : Environment) (names : List Text) where
  refused_by : (r : RequestReason) (found : Result (List Entry) RequestReason) → entries_of e ≡ found → Ok names ≡ named found → RequestStep s e purge (Err r) → Keeps s w e (Err (refused_for r))
  refused_by r (Err q) is h step = absurd (cc)
  refused_by r (Ok entries) is h step =
      let whole : KeepReason = refused_for r in (
        Ok entries,
        (Ok entries, sym is, refl),
        (Err whole, (Err r, step, refl), refl),
      )

  -- a purge that is refused
  pub purge_refused : (r : RequestReason) → Ok names ≡ loaded_names e → RequestStep s e purge (Err r) → Keeps s w e (Err (refused_for r))
  purge_refused r h step = refused_by r (entries_of e) refl h step

  made_by : (purged : Done) (o : Result Kept KeepReason) (found : Result (List Entry) RequestReason) → entries_of e ≡ found → Ok names ≡ named found → RequestStep s e purge (Ok purged)
      → o ≡ kept names (paths_in w purged.env) → Keeps s w e o
  made_by purged o (Err q) is h step k = absurd (cc)
  made_by purged o (Ok entries) is h step k =
      let same : names ≡ names_of entries = cc in (
        Ok entries,
        (Ok entries, sym is, refl),
        (Ok purged, (Ok purged, step, refl), subst (λ (l : List Text). o ≡ kept l (paths_in w purged.env)) same k),
      )

  -- what is kept after a purge, or why nothing is
  pub keeps_made : (purged : Done) (o : Result Kept KeepReason) → Ok names ≡ loaded_names e → RequestStep s e purge (Ok purged) → o ≡ kept names (paths_in w purged.env) → Keeps s w e o
  keeps_made purged o h step k = made_by purged o (entries_of e) refl h step k

pub kept_so : (names paths given directories : List Text) (found : Result (List Text) PathReason) → found ≡ Ok paths → given ≡ paths → directories ≡ without_repeats given
    → (k : Kept) → k ≡ record { directories = directories; modules = names } → Ok k ≡ kept names found
kept_so names paths given directories found is same once k made =
    let whole : Result Kept KeepReason = kept names (Ok paths) in
    ap (λ (x : Kept). let o : Result Kept KeepReason = Ok x in o) (made ∙ ap (λ (l : List Text). let x : Kept = record { directories = l; modules = names } in x) (once ∙ ap without_repeats same))
    ∙ ap (kept names) (sym is)

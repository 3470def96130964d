-- Dry runs, by what their two requests answered.
use Rattle.std.proofs.Common.{◌≡◌, ◌<◌, length, ℕ, Bool, true, false, ◌&&◌, inr, List, [], ◌∷◌, Result, Ok, Err}
use Rattle.std.proofs.Common.{Some, IfOk, string_bytes, refl, sym, subst, ap, ◌∙◌}
use Rattle.std.specs.Prelude.{bytes_eq}
use Rattle.std.proofs.lemmas.Bool.{and_from, and_parts}
use Rattle.std.proofs.lemmas.Slice.Eq.{bytes_eq-Decides}
use Rattle.envvars.specs.Texts.{Text, texts_in}
use Rattle.envvars.specs.Environment.{Environment}
use Rattle.envvars.specs.Changes.{NewValue, AreChanges, applied}
use Rattle.envvars.proofs.TextLemmas.{same_text}
use Rattle.filetree.specs.Agreement.{FailsIf, Files, InEachPair, Listings, Narrows}
use Rattle.filetree.proofs.FailedPaths.{fails_then}
use Rattle.envstate.specs.loaded_list.LoadedEntries.{entry_view}
use Rattle.envstate.specs.loaded_list.LoadedLaws.{AddMakes}
use Rattle.envstate.specs.declared.loaded_list.entry.Loaded.{Loaded}
use Rattle.modulefile.specs.Moves.{loaded_names}
use Rattle.modules.specs.MoveViews.{moves_of}
use Rattle.modules.specs.Views.{done_view}
use Rattle.modules.specs.declared.done.RequestResults.{RequestResults}
use Rattle.modules.specs.declared.refusal.Refusal.{Refusal}
use Rattle.requests.specs.Laws.{StepsReach}
use Rattle.requests.specs.Looked.{RequestLooksAt}
use Rattle.requests.specs.Requests.{RequestedAction, load, unload}
use Rattle.requests.specs.Steps.{RequestContext, Done, RequestStep}
use Rattle.audit_dry_runs.specs.Parts.{EndsDryRun, IsDifference, IsJoined, IsOutcome, names_left}
use Rattle.audit_dry_runs.specs.DryRuns.{DryRun, returns, leaves, load_refused, unload_refused, already_loaded, loads_another}
use Rattle.audit_dry_runs.specs.DryRuns.{AreLeft, HasDryRun, LoadStep, LoadsModule, DryRunLooksAt, UnloadStep, lost_among}
use Rattle.audit_dry_runs.specs.Views.{dry_run_view}
use Rattle.audit_dry_runs.specs.declared.dry_run.DryRun as code
use Rattle.audit_dry_runs.proofs.LoadLemmas.{one_joined}

-- what differs, written over the old environment, gives the new one
abbrev pub DifferenceApplies : Type 0
DifferenceApplies = (old new : Environment) (cs : List NewValue) → AreChanges old new cs → applied cs old ≡ new

-- where nothing is left nothing differs, and nothing is lost
nothing_left : (cs : List NewValue) (lost : List Text) → names_left cs lost ≡ [] → (cs ≡ []) × (lost ≡ [])
nothing_left [] lost h = (refl, h)
nothing_left (c ∷ cs) lost h = absurd (cc)

-- the variables that are left otherwise, by their parts
pub left_so : (names : List Text) (cs : List NewValue) (lost : List Text) (t : DryRun) → names ≡ names_left cs lost
    → IsDifference names t → IsDifference (names_left cs lost) t
left_so names cs lost t same h = subst (λ (l : List Text). IsDifference l t) same h

-- the dry run ends as the difference says
pub ends_so : DifferenceApplies → (s : RequestContext) (not_utf8 : List Text) (start e : Environment) (name : Text)
    (back : Done) (cs : List NewValue) (lost : List Text) (t : DryRun) → UnloadStep s e name (Ok back)
    → AreChanges start back.env cs → lost ≡ lost_among not_utf8 e back.env → IsDifference (names_left cs lost) t
    → EndsDryRun s not_utf8 start e name t
ends_so law s not_utf8 start e name back cs lost returns step exact same h =
    let k = nothing_left cs lost h in
    (back, step, sym (law start back.env cs exact) ∙ ap (λ (l : List NewValue). applied l start) k.0, sym same ∙ k.1)
ends_so law s not_utf8 start e name back cs lost (leaves names) step exact same h = (
  back,
  step,
  record {
    some = subst (λ (l : List Text). 0 < length l) (sym h.1) h.0;
    changes = cs;
    exact = exact;
    named = h.1 ∙ ap (λ (l : List Text). names_left cs l) same;
  },
)
ends_so law s not_utf8 start e name back cs lost (load_refused cause) step exact same h = absurd h
ends_so law s not_utf8 start e name back cs lost (unload_refused cause) step exact same h = absurd h
ends_so law s not_utf8 start e name back cs lost already_loaded step exact same h = absurd h
ends_so law s not_utf8 start e name back cs lost (loads_another other at) step exact same h = absurd h

-- the end of a dry run, after the load of the module
pub tried_so : (s : RequestContext) (not_utf8 : List Text) (start e : Environment) (name path : Text) (d : Done)
    (t : DryRun) → LoadsModule s start name name path d → d.env ≡ e → EndsDryRun s not_utf8 start e name t
    → HasDryRun s not_utf8 start name path t
tried_so s not_utf8 start e name path d returns loads same (back, step, is, kept) = (
  d,
  back,
  loads,
  subst (λ (x : Environment). UnloadStep s x name (Ok back)) (sym same) step,
  is,
  subst (λ (x : Environment). lost_among not_utf8 x back.env ≡ []) (sym same) kept,
)
tried_so s not_utf8 start e name path d (leaves names) loads same (back, step, left) = (
  d,
  back,
  loads,
  subst (λ (x : Environment). UnloadStep s x name (Ok back)) (sym same) step,
  subst (λ (x : Environment). AreLeft start back.env (lost_among not_utf8 x back.env) names) (sym same) left,
)
tried_so s not_utf8 start e name path d (load_refused cause) loads same h = absurd h
tried_so s not_utf8 start e name path d (unload_refused cause) loads same h =
    (d, loads, subst (λ (x : Environment). EndsDryRun s not_utf8 start x name (unload_refused cause)) (sym same) h)
tried_so s not_utf8 start e name path d already_loaded loads same h = absurd h
tried_so s not_utf8 start e name path d (loads_another other at) loads same h = absurd h

-- ---- the module that was loaded

-- the test whether it is this one
pub is_this : (n m p q : Text) → true ≡ (bytes_eq n m && bytes_eq p q) → (n ≡ m) × (p ≡ q)
is_this n m p q h = let k = and_parts (bytes_eq n m) (bytes_eq p q) (sym h) in (same_text n m k.0, same_text p q k.1)

pub is_another : (n m p q : Text) → false ≡ (bytes_eq n m && bytes_eq p q) → (n ≡ m) × (p ≡ q) → ⊥
is_another n m p q h (named, placed) =
    let k : (bytes_eq n m && bytes_eq p q) ≡ true =
    and_from (bytes_eq n m) (bytes_eq p q) ((bytes_eq-Decides n m).1 named) ((bytes_eq-Decides p q).1 placed) in
    absurd (cc)

pub loads_this : (s : RequestContext) (e : Environment) (typed n p name path : Text) (d : Done) → n ≡ name → p ≡ path
    → LoadsModule s e typed n p d → LoadsModule s e typed name path d
loads_this s e typed n p name path d named placed h =
    subst (λ (x : Text). LoadsModule s e typed name x d) placed (subst (λ (x : Text). LoadsModule s e typed x p d) named h)

-- ---- over a tree

-- in each pair the load has loaded the module, and made this environment
abbrev pub IsLoaded : (Files → Listings → RequestContext) → (Files → Listings → Type 0) → Environment → Environment
    → Text → Text → Type 0
IsLoaded context agrees start e name path = InEachPair agrees (λ files listings.
    (d : Done) × LoadsModule (context files listings) start name name path d × (d.env ≡ e))

-- the outcome of the load, where it was accepted
pub load_accepted : (context : Files → Listings → RequestContext) (agrees : Files → Listings → Type 0)
    (start e was : Environment) (name : Text) (done : RequestResults) (asked : RequestedAction)
    (outcome : Result RequestResults Refusal) → was ≡ start → asked ≡ load (name ∷ []) → outcome ≡ Ok done
    → InEachPair agrees (λ files listings. IsOutcome (RequestStep (context files listings) was asked) e outcome)
    → InEachPair agrees (λ files listings. LoadStep (context files listings) start name (Ok (done_view done e)))
load_accepted context agrees start e was name done asked outcome same is made h files listings agreed =
    rw (same, is, made) at (h files listings agreed)

-- so it is where what the load put into the loaded list is this module
pub loaded_over : StepsReach → AddMakes → (context : Files → Listings → RequestContext)
    (agrees : Files → Listings → Type 0) (start e : Environment) (name path : Text) (done : RequestResults) (entry : Loaded)
    → texts_in done.loaded ≡ loaded_names (moves_of done.moves)
    → IsJoined (texts_in done.loaded) e (Some (entry_view entry))
    → true ≡ (bytes_eq (string_bytes entry.name) name && bytes_eq (string_bytes entry.path) path)
    → InEachPair agrees (λ files listings. LoadStep (context files listings) start name (Ok (done_view done e)))
    → IsLoaded context agrees start e name path
loaded_over reach add context agrees start e name path done entry named joins this step files listings agreed =
    let s = context files listings in
    let d = done_view done e in
    let same = is_this (string_bytes entry.name) name (string_bytes entry.path) path this in
    let loads = one_joined reach add s start name d (step files listings agreed) (texts_in done.loaded) (entry_view entry) named joins in
    (d, loads_this s start name (string_bytes entry.name) (string_bytes entry.path) name path d same.0 same.1 loads, refl)

module _ (context : Files → Listings → RequestContext) (agrees agrees' : Files → Listings → Type 0)
    (narrows : Narrows agrees agrees') (start e : Environment) (name path : Text)
    (loaded : IsLoaded context agrees start e name path) where
  -- the dry run of the module is what its unload makes of it
  pub tried_over : (not_utf8 : List Text) (result : Result code.DryRun Refusal)
      → IfOk result (λ dry_run. InEachPair agrees' (λ files listings. EndsDryRun (context files listings) not_utf8 start e name (dry_run_view dry_run)))
      → IfOk result (λ dry_run. InEachPair agrees' (λ files listings. HasDryRun (context files listings) not_utf8 start name path (dry_run_view dry_run)))
  tried_over not_utf8 (Ok dry_run) h = λ files listings agreed.
      let l = loaded files listings (narrows files listings agreed) in
      tried_so (context files listings) not_utf8 start e name path l.0 (dry_run_view dry_run) l.1 l.2 (h files listings agreed)
  tried_over not_utf8 (Err refusal) h = tt

  -- and where the unload failed the dry run looks
  pub failed_over : (fails : Bool) (first before now : List ℕ → Bool) → before ≡ first
      → FailsIf fails before now (λ at. InEachPair agrees' (λ files listings. RequestLooksAt (context files listings) e (unload (name ∷ [])) at))
      → FailsIf fails first now (λ at. InEachPair agrees' (λ files listings. DryRunLooksAt (context files listings) start name path at))
  failed_over fails first before now same h =
      fails_then fails fails first before now _ _ same refl (λ at looks files listings agreed.
      let l = loaded files listings (narrows files listings agreed) in
      inr (
        l.0,
        l.1,
        subst (λ (x : Environment). RequestLooksAt (context files listings) x (unload (name ∷ [])) at)
            (sym l.2) (looks files listings agreed),
      )) h

-- A module has one dry run at most.
use Rattle.std.proofs.Common.{◌≡◌, ◌⊎◌, ◌<◌, inl, inr, List, [], ◌∷◌, ◌++◌, length, Result, Ok, Err, refl, sym, subst, ap, ◌∙◌}
use Rattle.std.proofs.Common.{arith}
use Rattle.envvars.specs.Texts.{Text}
use Rattle.envvars.specs.Environment.{Environment}
use Rattle.envvars.specs.Changes.{NewValue, AreChanges}
use Rattle.filetree.specs.Causes.{memory, device, because}
use Rattle.modulefile.specs.Moves.{Move, Loads, Unloads}
use Rattle.requests.specs.Laws.{OneOutcome}
use Rattle.requests.specs.Reasons.{RequestReason}
use Rattle.requests.specs.Requests.{load, unload}
use Rattle.requests.specs.Steps.{RequestContext, Done}
use Rattle.audit_dry_runs.specs.Laws.{IsDecided, OneDryRun}
use Rattle.audit_dry_runs.specs.DryRuns.{DryRun, returns, leaves, load_refused, unload_refused, already_loaded, loads_another}
use Rattle.audit_dry_runs.specs.DryRuns.{AreLeft, HasDryRun, LoadStep, LoadsModule, UnloadStep, lost_among}
use Rattle.audit_dry_runs.proofs.OrderLemmas.{names_in, no_changes, one_difference}

-- what an environment is left as, and what is lost, makes of a dry run
abbrev Compared : Environment → List Text → Environment → DryRun → Type 0
Compared start lost e returns = (e ≡ start) × (lost ≡ [])
Compared start lost e (leaves names) = AreLeft start e lost names
Compared start lost e (load_refused cause) = ⊥
Compared start lost e (unload_refused cause) = ⊥
Compared start lost e already_loaded = ⊥
Compared start lost e (loads_another other at) = ⊥

-- what the outcome of the unload makes of it
abbrev Unloaded : List Text → Environment → Environment → Result Done RequestReason → DryRun → Type 0
Unloaded not_utf8 start e (Ok back) t = Compared start (lost_among not_utf8 e back.env) back.env t
Unloaded not_utf8 start e (Err reason) t = t ≡ unload_refused (because reason)

-- what the moves of the load make of it
abbrev Moved : RequestContext → List Text → Environment → Environment → Text → Text → List Move → DryRun → Type 0
Moved s not_utf8 start e name path [] t = t ≡ already_loaded
Moved s not_utf8 start e name path (Loads m ∷ ms) t =
    ((m.name ≡ name) × (m.path ≡ path)
    × ((o : Result Done RequestReason) × UnloadStep s e name o × Unloaded not_utf8 start e o t))
    ⊎ (((m.name ≡ name) × (m.path ≡ path) → ⊥) × (t ≡ loads_another m.name m.path))
Moved s not_utf8 start e name path (Unloads m ∷ ms) t = ⊥

-- what the outcome of the load makes of it
abbrev Loaded : RequestContext → List Text → Environment → Text → Text → Result Done RequestReason → DryRun → Type 0
Loaded s not_utf8 start name path (Ok d) t = Moved s not_utf8 start d.env name path d.moves t
Loaded s not_utf8 start name path (Err reason) t = t ≡ load_refused (because reason)

abbrev ByLoad : RequestContext → List Text → Environment → Text → Text → DryRun → Type 0
ByLoad s not_utf8 e name path t =
    (o : Result Done RequestReason) × LoadStep s e name o × Loaded s not_utf8 e name path o t

none_moved : (s : RequestContext) (not_utf8 : List Text) (start e : Environment) (name path : Text) (ms : List Move)
    (t : DryRun) → ms ≡ [] → t ≡ already_loaded → Moved s not_utf8 start e name path ms t
none_moved s not_utf8 start e name path ms t none h =
    subst (λ (x : List Move). Moved s not_utf8 start e name path x t) (sym none) h

this_moved : (s : RequestContext) (not_utf8 : List Text) (start : Environment) (name path : Text) (d : Done) (t : DryRun)
    (o : Result Done RequestReason) → LoadsModule s start name name path d → UnloadStep s d.env name o
    → Unloaded not_utf8 start d.env o t → ByLoad s not_utf8 start name path t
this_moved s not_utf8 start name path d t o loads step h = (
  Ok d,
  loads.accepted,
  subst (λ (x : List Move). Moved s not_utf8 start d.env name path x t) (sym loads.alone) (inl (refl, refl, (o, step, h))),
)

by_load : (s : RequestContext) (not_utf8 : List Text) (e : Environment) (name path : Text) (t : DryRun) → IsDecided t
    → HasDryRun s not_utf8 e name path t → ByLoad s not_utf8 e name path t
by_load s not_utf8 e name path returns so (d, back, loads, step, h, kept) =
    this_moved s not_utf8 e name path d returns (Ok back) loads step (h, kept)
by_load s not_utf8 e name path (leaves names) so (d, back, loads, step, h) =
    this_moved s not_utf8 e name path d (leaves names) (Ok back) loads step h
by_load s not_utf8 e name path (load_refused memory) so h = absurd h
by_load s not_utf8 e name path (load_refused device) so h = absurd so
by_load s not_utf8 e name path (load_refused (because reason)) so h = (Err reason, h, refl)
by_load s not_utf8 e name path (unload_refused memory) so h = absurd h.2
by_load s not_utf8 e name path (unload_refused device) so h = absurd so
by_load s not_utf8 e name path (unload_refused (because reason)) so (d, loads, step) =
    this_moved s not_utf8 e name path d (unload_refused (because reason)) (Err reason) loads step refl
by_load s not_utf8 e name path already_loaded so (d, step, none) =
    (Ok d, step, none_moved s not_utf8 e d.env name path d.moves already_loaded none refl)
by_load s not_utf8 e name path (loads_another other at) so (d, loads, apart) = (
  Ok d,
  loads.accepted,
  subst (λ (x : List Move). Moved s not_utf8 e d.env name path x (loads_another other at)) (sym loads.alone) (inr (apart, refl)),
)

-- ---- there is one

not_left : (e f : Environment) (lost names : List Text) → f ≡ e → lost ≡ [] → AreLeft e f lost names → ⊥
not_left e f lost names same kept h =
    let none : h.changes ≡ [] = no_changes e h.changes (subst (λ (x : Environment). AreChanges e x h.changes) same h.exact) in
    let empty : names ≡ [] = h.named ∙ (ap (λ (cs : List NewValue). names_in cs ++ lost) none ∙ kept) in
    let k : 0 < length names = h.some in
    let n : length names ≡ 0 = ap length empty in
    omega arith

one_compared : (start e : Environment) (lost : List Text) (t u : DryRun) → Compared start lost e t → Compared start lost e u
    → t ≡ u
one_compared start e lost returns returns h k = refl
one_compared start e lost returns (leaves names) h k = absurd (not_left start e lost names h.0 h.1 k)
one_compared start e lost (leaves names) returns h k = absurd (not_left start e lost names k.0 k.1 h)
one_compared start e lost (leaves names) (leaves others) h k =
    ap leaves (h.named ∙ (ap (λ (l : List Text). l ++ lost)
    (one_difference start e h.changes k.changes h.exact k.exact) ∙ sym k.named))
one_compared start e lost (load_refused cause) u h k = absurd h
one_compared start e lost (unload_refused cause) u h k = absurd h
one_compared start e lost already_loaded u h k = absurd h
one_compared start e lost (loads_another other at) u h k = absurd h
one_compared start e lost returns (load_refused cause) h k = absurd k
one_compared start e lost returns (unload_refused cause) h k = absurd k
one_compared start e lost returns already_loaded h k = absurd k
one_compared start e lost returns (loads_another other at) h k = absurd k
one_compared start e lost (leaves names) (load_refused cause) h k = absurd k
one_compared start e lost (leaves names) (unload_refused cause) h k = absurd k
one_compared start e lost (leaves names) already_loaded h k = absurd k
one_compared start e lost (leaves names) (loads_another other at) h k = absurd k

one_unloaded : (not_utf8 : List Text) (start e : Environment) (o : Result Done RequestReason) (t u : DryRun)
    → Unloaded not_utf8 start e o t → Unloaded not_utf8 start e o u → t ≡ u
one_unloaded not_utf8 start e (Ok back) t u h k =
    one_compared start back.env (lost_among not_utf8 e back.env) t u h k
one_unloaded not_utf8 start e (Err reason) t u h k = h ∙ sym k

module _ (law : OneOutcome) (s : RequestContext) (not_utf8 : List Text) (start : Environment) (name path : Text) where
  one_moved : (e : Environment) (ms : List Move) (t u : DryRun) → Moved s not_utf8 start e name path ms t
      → Moved s not_utf8 start e name path ms u → t ≡ u
  one_moved e [] t u h k = h ∙ sym k
  one_moved e (Unloads m ∷ ms) t u h k = absurd h
  one_moved e (Loads m ∷ ms) t u (inl (p, q, (o, step, h))) (inl (p', q', (o', step', k))) =
      let same : o' ≡ o = law s e (unload (name ∷ [])) o' o step' step in
      one_unloaded not_utf8 start e o t u h
      (subst (λ (x : Result Done RequestReason). Unloaded not_utf8 start e x u) same k)
  one_moved e (Loads m ∷ ms) t u (inl (p, q, h)) (inr (apart, k)) = absurd (apart (p, q))
  one_moved e (Loads m ∷ ms) t u (inr (apart, h)) (inl (p, q, k)) = absurd (apart (p, q))
  one_moved e (Loads m ∷ ms) t u (inr (apart, h)) (inr (apart', k)) = h ∙ sym k

  one_loaded : (o : Result Done RequestReason) (t u : DryRun) → Loaded s not_utf8 start name path o t
      → Loaded s not_utf8 start name path o u → t ≡ u
  one_loaded (Ok d) t u h k = one_moved d.env d.moves t u h k
  one_loaded (Err reason) t u h k = h ∙ sym k

  one_by_load : (t u : DryRun) → ByLoad s not_utf8 start name path t → ByLoad s not_utf8 start name path u → t ≡ u
  one_by_load t u (o, step, h) (o', step', k) =
      let same : o' ≡ o = law s start (load (name ∷ [])) o' o step' step in
      one_loaded o t u h (subst (λ (x : Result Done RequestReason). Loaded s not_utf8 start name path x u) same k)

pub one_dry_run : OneOutcome → OneDryRun
one_dry_run law s not_utf8 e name path t u so also h k =
    one_by_load law s not_utf8 e name path t u (by_load s not_utf8 e name path t so h)
    (by_load s not_utf8 e name path u also k)

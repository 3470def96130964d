-- What an accepted load makes.
use Rattle.std.proofs.Common.{◌≡◌, refl, ap, Result, Ok, Err}
use Rattle.envvars.specs.Environment.{Environment}
use Rattle.envvars.specs.Reasons.{EnvReason}
use Rattle.envstate.specs.loaded_list.Loaded.{added_loaded, dropped_loaded}
use Rattle.envstate.proofs.loaded_list.LoadedEdits.{loaded_after_add}
use Rattle.envstate.proofs.FrameLemmas.{add_edits_loaded}
use Rattle.modulefile.specs.Judgments.{RecordReason}
use Rattle.modulefile.specs.Effects.{load, unload, effects, edit_outcome, and_then}
use Rattle.modulefile.specs.Moves.{Module, Loads, Unloads, entry_of, entry_moved, moved}
use Rattle.reversal.specs.Laws.{IsLoad}
use Rattle.reversal.proofs.RecordKinds.{accepted}
use Rattle.reversal.proofs.ModuleEntries.{added_entry}

abbrev pub Outcome : Type 0
Outcome = Result Environment RecordReason

-- the first step of two that came to an end, and the second
pub parts : (o : Outcome) (then : Environment → Outcome) (e : Environment) → and_then o then ≡ Ok e → (d : Environment) × (o ≡ Ok d) × (then d ≡ Ok e)
parts (Ok d) then e h = (d, refl, h)
parts (Err r) then e h = absurd (cc)

by_edit_ok : (r : Result Environment EnvReason) (new : Environment) → edit_outcome r ≡ Ok new → r ≡ accepted new
by_edit_ok (Ok e) new h = let s : e ≡ new = cc in ap accepted s
by_edit_ok (Err x) new h = absurd (cc)

-- an accepted load in two steps
pub record LoadParts (m : Module) (old new : Environment) : Type 0 where
  pub mid : Environment
  pub effects : effects load m.name m.records old ≡ Ok mid
  pub entry : added_loaded mid (entry_of m) ≡ Ok new

pub load_parts : (m : Module) (old new : Environment) → moved (Loads m) old ≡ Ok new → LoadParts m old new
load_parts m old new h =
    let p = parts (effects load m.name m.records old) (entry_moved (Loads m)) new h in
    record { mid = p.0; effects = p.1; entry = by_edit_ok (added_loaded p.0 (entry_of m)) new p.2 }

-- an accepted unload in two steps
pub record UnloadParts (m : Module) (old new : Environment) : Type 0 where
  pub mid : Environment
  pub effects : effects unload m.name m.records old ≡ Ok mid
  pub entry : dropped_loaded mid m.name ≡ Ok new

pub unload_parts : (m : Module) (old new : Environment) → moved (Unloads m) old ≡ Ok new → UnloadParts m old new
unload_parts m old new h =
    let p = parts (effects unload m.name m.records old) (entry_moved (Unloads m)) new h in
    record { mid = p.0; effects = p.1; entry = by_edit_ok (dropped_loaded p.0 m.name) new p.2 }

pub loads_make : (m : Module) (old new : Environment) → moved (Loads m) old ≡ Ok new → IsLoad m old new
loads_make m old new h =
    let p = load_parts m old new h in
    record {
      after = p.mid;
      effects = p.effects;
      entry = λ xs l. added_entry m xs new (loaded_after_add p.mid new (entry_of m) xs l p.entry);
      only = add_edits_loaded p.mid new (entry_of m) p.entry;
    }

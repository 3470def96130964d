-- The entries of live modules, and the unload of one by an evaluation of its file that is accepted.
use Rattle.std.proofs.Common.{◌≡◌, inl, inr, Bool, true, false, cond, not, ◌&&◌, ◌||◌, List, [], ◌∷◌, ◌++◌, map, Option, Some, Result, Ok, refl, ap, sym, ◌∙◌, subst}
use Rattle.std.specs.Prelude.{bytes_eq}
use Rattle.std.proofs.lemmas.Bool.{false≢true}
use Rattle.std.proofs.lemmas.List.{map-append}
use Rattle.std.proofs.lemmas.Option.{same_Some}
use Rattle.modulename.specs.ModuleName.{is_module_name}
use Rattle.envvars.specs.Texts.{Text, has}
use Rattle.envvars.specs.Fields.{are_distinct}
use Rattle.envvars.specs.Environment.{Environment}
use Rattle.envvars.proofs.TextLemmas.{bytes_eq-same, bytes_eq-symmetric, has-push, or_left, or_right}
use Rattle.envvars.proofs.EditLemmas.{both_true, not_is}
use Rattle.envstate.specs.loaded_list.Loaded.{Entry, names_of, loaded_in, with_loaded, without_entry, dropped_from, AreLoadedInOrder}
use Rattle.envstate.specs.EnvLaws.{AreSound}
use Rattle.envstate.proofs.StateLemmas.{list_in_order}
use Rattle.filetree.specs.Modulefiles.{script, modulefile}
use Rattle.modulefile.specs.Judgments.{RecordReason}
use Rattle.modulefile.specs.Results.{◌>>=◌}
use Rattle.modulefile.specs.Effects.{unload, effects, edit_outcome}
use Rattle.modulefile.specs.Moves.{Module, Unloads, entry_of, entry_moved, moved, Fits, MovesReach}
use Rattle.modulefile.specs.Answers.{FileContext}
use Rattle.modulefile.specs.Files.{Ran, RunsFile}
use Rattle.modulefile.proofs.Effected.{whole}
use Rattle.reversal.specs.Live.{entries_over}
use Rattle.reversal.specs.Undone.{UndoEquivalently}
use Rattle.reversal.specs.Runs.{live_named, Undoes}
use Rattle.reversal.proofs.Frames.{effects_leave_list}
use Rattle.requests.specs.Refusals.{refused_as}
use Rattle.requests.specs.Reasons.{refused_edit}
use Rattle.requests.specs.Steps.{RequestContext, Done, with_move, context_of, module_of, script_at, UnloadsEntry}
use Rattle.audit_certificate.specs.RecordUses.{IsAmong}
use Rattle.audit_certificate.proofs.UsedLemmas.{by_test, among_left, among_right}
use Rattle.audit_certificate.proofs.Exact.{all_each, some_any}

-- ---- entries

pub in_map : {X Y : Type 0} (f : X → Y) (x : X) (xs : List X) → IsAmong x xs → IsAmong (f x) (map f xs)
in_map f x [] a = absurd a
in_map f x (y ∷ xs) (inl e) = inl (ap f e)
in_map f x (y ∷ xs) (inr a) = inr (in_map f x xs a)

pub entry_there : (xs : List Entry) (live : List Module) (l : Module) → IsAmong l live → IsAmong (entry_of l) (entries_over xs live)
entry_there xs [] l a = absurd a
entry_there xs (m ∷ live) l (inl e) = among_right (entry_of l) (entries_over xs live) (entry_of m ∷ []) (inl (ap entry_of e))
entry_there xs (m ∷ live) l (inr a) = among_left (entry_of l) (entries_over xs live) (entry_of m ∷ []) (entry_there xs live l a)

name_there : (xs : List Entry) (live : List Module) (l : Module) → IsAmong l live → IsAmong l.name (names_of (entries_over xs live))
name_there xs live l a = in_map (λ (x : Entry). x.name) (entry_of l) (entries_over xs live) (entry_there xs live l a)

pub sound_list : (e : Environment) (xs : List Entry) → AreLoadedInOrder e → loaded_in e ≡ Some xs → AreSound xs
sound_list e xs order list = let now = list_in_order e order in subst AreSound (same_Some now.0 xs (sym now.1 ∙ list)) now.2

-- a live module's name is well spelled
pub live_spelled : (e : Environment) (first : List Entry) (live : List Module) (l : Module) → AreLoadedInOrder e → loaded_in e ≡ Some (entries_over first live) → IsAmong l live
    → is_module_name l.name ≡ true
live_spelled e first live l order list a =
    let k = sound_list e (entries_over first live) order list in
    all_each is_module_name (names_of (entries_over first live)) k.names l.name (name_there first live l a)

-- no two live modules have one name
abbrev pub Distinct : List Module → Type 0
Distinct [] = Unit {0}
Distinct (m ∷ live) = ((n : Module) → IsAmong n live → bytes_eq m.name n.name ≡ false) × Distinct live

pub distinct_last : (n : Text) (ns : List Text) → are_distinct (ns ++ n ∷ []) ≡ true → (has n ns ≡ false) × (are_distinct ns ≡ true)
distinct_last n [] h = (refl, refl)
distinct_last n (k ∷ ns) h =
    let p = both_true (not (has k (ns ++ n ∷ []))) (are_distinct (ns ++ n ∷ [])) h in
    let a : (bytes_eq k n || has k ns) ≡ false = sym (has-push ns n k) ∙ not_is (has k (ns ++ n ∷ [])) p.0 in
    let b = distinct_last n ns p.1 in
    let c : bytes_eq n k ≡ false = bytes_eq-symmetric n k ∙ or_left (bytes_eq k n) (has k ns) a in
    (rw c b.0, rw (or_right (bytes_eq k n) (has k ns) a) b.1)

distinct_over : (first : List Entry) (live : List Module) → are_distinct (names_of (entries_over first live)) ≡ true → Distinct live
distinct_over first [] h = tt
distinct_over first (m ∷ live) h =
    let names = names_of (entries_over first live) in
    let p = distinct_last m.name names (ap are_distinct (sym (map-append (λ (x : Entry). x.name) (entries_over first live) (entry_of m ∷ []))) ∙ h) in (
      λ n a. by_test (bytes_eq m.name n.name) _
          (λ t. absurd (false≢true (sym p.0 ∙ some_any (bytes_eq m.name) names n.name (name_there first live n a) t)))
          (λ f. f),
      distinct_over first live p.1,
    )

pub live_distinct : (e : Environment) (first : List Entry) (live : List Module) → AreLoadedInOrder e → loaded_in e ≡ Some (entries_over first live) → Distinct live
live_distinct e first live order list = distinct_over first live (sound_list e (entries_over first live) order list).once

-- ---- the move of an unload

-- the file at a live module's path is accepted in a context, and its records, which have their effects, undo the same
pub record RunsAgain (s : RequestContext) (d : FileContext) (l : Module) : Type 0 where
  pub text : Text
  pub file : modulefile (s.files l.path) ≡ script text
  pub ran : Ran
  pub runs : RunsFile s.limits d text (Ok ran)
  pub made : effects d.mode d.name ran.records d.before ≡ Ok ran.env
  pub undoes : UndoEquivalently ran.records l.records

drop_had : (e : Environment) (name : Text) (xs : List Entry) (b : Bool) → has name (names_of xs) ≡ b
    → (new : Environment) × (edit_outcome (cond b (Ok (with_loaded e (without_entry name xs))) (Ok e)) ≡ Ok new)
drop_had e name xs true h = (with_loaded e (without_entry name xs), refl)
drop_had e name xs false h = (e, refl)

-- an unload whose records have their effects is a move
pub move_had : (m : Module) (old mid : Environment) (xs : List Entry) → loaded_in old ≡ Some xs → effects unload m.name m.records old ≡ Ok mid → (new : Environment) × (moved (Unloads m) old ≡ Ok new)
move_had m old mid xs list made =
    let d = drop_had mid m.name xs (has m.name (names_of xs)) refl in
    let there : entry_moved (Unloads m) mid ≡ Ok d.0 = ap (λ (o : Option (List Entry)). edit_outcome (dropped_from mid m.name o)) (effects_leave_list unload m.name m.records old mid made ∙ list) ∙ d.1 in
    (d.0, whole (effects unload m.name m.records old) (entry_moved (Unloads m)) mid d.0 made there)

-- the context in which the file of a live module is evaluated for its unload
abbrev pub unload_context : RequestContext → Bool → Module → Text → List Entry → Environment → FileContext
unload_context s in_switch l typed xs e = context_of s unload in_switch typed l.name l.path xs e

-- the step of a live module's entry, and the move that it makes
pub record UnloadsEntryOf (s : RequestContext) (in_switch : Bool) (live : List Module) (l : Module) (typed : Text) (d : Done) (xs : List Entry) : Type 0 where
  pub done : Done
  pub step : UnloadsEntry s in_switch typed d xs (entry_of l) (Ok done)
  pub unloaded : Module
  pub name : unloaded.name ≡ l.name
  pub moves : done.moves ≡ d.moves ++ Unloads unloaded ∷ []
  pub undoes : Undoes live unloaded
  pub reach : MovesReach (Unloads unloaded ∷ []) d.env done.env

pub unloads_entry : (s : RequestContext) (in_switch : Bool) (live : List Module) (first : List Entry) (l : Module) (typed : Text) (d : Done) → live_named l.name live ≡ Some l → IsAmong l live
    → loaded_in d.env ≡ Some (entries_over first live) → RunsAgain s (unload_context s in_switch l typed (entries_over first live) d.env) l
    → UnloadsEntryOf s in_switch live l typed d (entries_over first live)
unloads_entry s in_switch live first l typed d named among list r =
    let xs = entries_over first live in
    let m : Module = module_of l.name l.path r.ran in
    let mv = move_had m d.env r.ran.env xs list r.made in
    let is_it : (bytes_eq m.name l.name && bytes_eq m.path l.path) ≡ true = rw (bytes_eq-same l.name, bytes_eq-same l.path) refl in
    let fits : Fits (Unloads m) d.env = (xs, list, some_any (λ (x : Entry). bytes_eq m.name x.name && bytes_eq m.path x.path) xs (entry_of l) (entry_there first live l among) is_it) in
    record {
      done = with_move d (Unloads m) r.ran.messages mv.0;
      step = (
        Ok r.text,
        sym (ap (script_at l.path) r.file),
        (
          Ok r.ran,
          (Ok r.ran, r.runs, refl),
          sym (ap (λ (o : Result Environment RecordReason). refused_as refused_edit o >>= (λ e. Ok (with_move d (Unloads m) r.ran.messages e))) mv.1),
        ),
      );
      unloaded = m;
      name = refl;
      moves = refl;
      undoes = record { loaded = l; found = named; alike = r.undoes };
      reach = (fits, (mv.0, mv.1, refl));
    }

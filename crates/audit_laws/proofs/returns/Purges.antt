-- A purge over live modules ends as a purge of the start does, where each live module can be unloaded.
use Rattle.std.proofs.Common.{◌≡◌, Bool, true, false, List, [], ◌∷◌, ◌++◌, map, Option, Some, None, Result, Ok, Err, refl, ap, sym, ◌∙◌, subst}
use Rattle.std.proofs.Common.{find, reverse, inl, inr}
use Rattle.std.specs.Prelude.{bytes_eq}
use Rattle.std.proofs.lemmas.List.{map-append, reverse-append, reverse-reverse}
use Rattle.std.proofs.lemmas.Option.{same_Some}
use Rattle.modulename.specs.ModuleName.{is_module_name, means}
use Rattle.envvars.specs.Texts.{Text, has}
use Rattle.envvars.specs.Fields.{are_distinct}
use Rattle.envvars.specs.Environment.{Environment}
use Rattle.envvars.specs.Reasons.{EnvReason}
use Rattle.envvars.proofs.TextLemmas.{bytes_eq-same, or_left, or_right}
use Rattle.envstate.specs.loaded_list.Loaded.{Entry, names_of, loaded_in, without_entry, dropped_loaded, AreLoadedInOrder}
use Rattle.envstate.proofs.StateLemmas.{dropped_list, list_in_order}
use Rattle.filetree.specs.Relations.{Is, If, After}
use Rattle.modulefile.specs.Judgments.{RecordReason}
use Rattle.modulefile.specs.Results.{◌>>=◌}
use Rattle.modulefile.specs.Effects.{unload, effects, edit_outcome}
use Rattle.modulefile.specs.Moves.{Module, Move, Unloads, entry_of, entry_moved, moved}
use Rattle.modulefile.proofs.Effected.{parts}
use Rattle.reversal.specs.Live.{entries_over}
use Rattle.reversal.proofs.Frames.{effects_leave_list}
use Rattle.requests.specs.Conditions.{end_objection}
use Rattle.requests.specs.Laws as requests
use Rattle.requests.specs.Refusals.{refused_as, unless}
use Rattle.requests.specs.Reasons.{RequestReason, missed, refused_edit}
use Rattle.requests.specs.Requests.{purge}
use Rattle.requests.specs.Steps.{RequestContext, Done, nothing_done, with_move, continued, consistent, module_of, UnloadsEntry, UnloadsMeant, last_meant}
use Rattle.requests.specs.Steps.{UnloadsName, Each, EndsRequest, RequestStep}
use Rattle.search.specs.Reasons.{bad_name}
use Rattle.audit_certificate.specs.RecordUses.{IsAmong}
use Rattle.audit_laws.specs.returns.Unloads.{means_one, without_meant, without_all, AreOfLive, IsBack, EndAlike}
use Rattle.audit_laws.proofs.returns.MeantNames.{means_itself}
use Rattle.audit_laws.proofs.returns.LiveEntries.{distinct_last}
use Rattle.audit_laws.proofs.returns.Unloads.{CanUnload, NoneIsStart, each_name, taken_live}

-- ---- outcomes that are alike

refused_alike : (reason : RequestReason) (q : Result Done RequestReason) → q ≡ Err reason → EndAlike (Err reason) q
refused_alike reason q h = subst (EndAlike (Err reason)) (sym h) refl

accepted_alike : (one other : Done) (q : Result Done RequestReason) → q ≡ Ok other → one.env ≡ other.env → EndAlike (Ok one) q
accepted_alike one other q h same = subst (EndAlike (Ok one)) (sym h) same

moved_alike : (one other : Done) (m : Move) (messages : List Text) (r : Result Environment RequestReason)
    → EndAlike (r >>= (λ e. Ok (with_move one m messages e))) (r >>= (λ e. Ok (with_move other m messages e)))
moved_alike one other m messages (Ok e) = refl
moved_alike one other m messages (Err reason) = refl

-- what the step does from here, where it did the other elsewhere
record DoesAlike (Step : Done → Result Done RequestReason → Type 0) (here : Done) (there : Result Done RequestReason) : Type 0 where
  result : Result Done RequestReason
  step : Step here result
  alike : EndAlike result there

-- the same environment, with what was done before
abbrev in_env : Environment → Done → Done
in_env e d = record { env = e; moves = d.moves; messages = d.messages; report = d.report }

-- ---- a step depends on the environment alone

module _ (s : RequestContext) where
  entry_alike : (typed : Text) (d here : Done) (xs : List Entry) (x : Entry) (q : Result Done RequestReason) → UnloadsEntry s false typed d xs x q
      → DoesAlike (λ k r. UnloadsEntry s false typed k xs x r) (in_env d.env here) q
  entry_alike typed d here xs x q (Err reason, is, h) = record { result = Err reason; step = (Err reason, is, refl); alike = refused_alike reason q h }
  entry_alike typed d here xs x q (Ok text, is, (Err reason, runs, h)) =
      record { result = Err reason; step = (Ok text, is, (Err reason, runs, refl)); alike = refused_alike reason q h }
  entry_alike typed d here xs x q (Ok text, is, (Ok ran, runs, h)) =
      let m : Move = Unloads (module_of x.name x.path ran) in
      record {
        result = continued (in_env d.env here) m ran.messages;
        step = (Ok text, is, (Ok ran, runs, refl));
        alike = subst (EndAlike (continued (in_env d.env here) m ran.messages)) (sym h)
            (moved_alike (in_env d.env here) d m ran.messages (refused_as refused_edit (moved m d.env)));
      }

  meant_alike : (typed : Text) (d here : Done) (xs : List Entry) (x : Option Entry) (q : Result Done RequestReason) → UnloadsMeant s false typed d xs x q
      → DoesAlike (λ k r. UnloadsMeant s false typed k xs x r) (in_env d.env here) q
  meant_alike typed d here xs None q h = record { result = Ok (in_env d.env here); step = refl; alike = accepted_alike (in_env d.env here) d q h refl }
  meant_alike typed d here xs (Some x) q h =
      let a = entry_alike typed d here xs x q h in record { result = a.result; step = a.step; alike = a.alike }

  tested_alike : (b : Bool) (typed : Text) (d here : Done) (xs : List Entry) (x : Option Entry) (q : Result Done RequestReason)
      → If b (UnloadsMeant s false typed d xs x) (Is (Err (missed (bad_name typed)))) q
      → DoesAlike (λ k r. If b (UnloadsMeant s false typed k xs x) (Is (Err (missed (bad_name typed)))) r) (in_env d.env here) q
  tested_alike true typed d here xs x q h = let a = meant_alike typed d here xs x q h in record { result = a.result; step = a.step; alike = a.alike }
  tested_alike false typed d here xs x q h =
      record { result = Err (missed (bad_name typed)); step = refl; alike = refused_alike (missed (bad_name typed)) q h }

  name_alike : (typed : Text) (d here : Done) (q : Result Done RequestReason) → UnloadsName s false typed d q → DoesAlike (UnloadsName s false typed) (in_env d.env here) q
  name_alike typed d here q (Err reason, is, h) = record { result = Err reason; step = (Err reason, is, refl); alike = refused_alike reason q h }
  name_alike typed d here q (Ok xs, is, h) =
      let a = tested_alike (is_module_name typed) typed d here xs (last_meant typed xs) q h in
      record { result = a.result; step = (Ok xs, is, a.step); alike = a.alike }

  name_from : (typed : Text) (d here : Done) (q : Result Done RequestReason) → here.env ≡ d.env → UnloadsName s false typed d q → DoesAlike (UnloadsName s false typed) here q
  name_from typed d here q same h = subst (λ (e : Environment). DoesAlike (UnloadsName s false typed) (in_env e here) q) (sym same) (name_alike typed d here q h)

  rest_alike : (name : Text) (names : List Text) (here : Done) (first now q : Result Done RequestReason)
      → ((d next : Done) → next.env ≡ d.env → Each (UnloadsName s false) names d q → DoesAlike (Each (UnloadsName s false) names) next q)
      → UnloadsName s false name here now → EndAlike now first → After (Each (UnloadsName s false) names) first q → DoesAlike (Each (UnloadsName s false) (name ∷ names)) here q
  rest_alike name names here (Ok d) (Ok next) q more step alike rest =
      let r = more d next alike rest in record { result = r.result; step = (Ok next, step, r.step); alike = r.alike }
  rest_alike name names here (Ok d) (Err reason) q more step alike rest = absurd alike
  rest_alike name names here (Err reason) (Ok next) q more step alike rest = absurd alike
  rest_alike name names here (Err reason) (Err now) q more step alike rest =
      record { result = Err now; step = (Err now, step, refl); alike = subst (EndAlike (Err now)) (sym rest) alike }

  each_alike : (names : List Text) (d here : Done) (q : Result Done RequestReason) → here.env ≡ d.env → Each (UnloadsName s false) names d q
      → DoesAlike (Each (UnloadsName s false) names) here q
  each_alike [] d here q same h = record { result = Ok here; step = refl; alike = accepted_alike here d q h same }
  each_alike (name ∷ names) d here q same (first, step, rest) =
      let a = name_from name d here first same step in
      rest_alike name names here first a.result q (λ k next e h. each_alike names k next q e h) a.step a.alike rest

  -- ---- some names, and then others

  each_join : (some more : List Text) (d mid : Done) (q : Result Done RequestReason) → Each (UnloadsName s false) some d (Ok mid) → Each (UnloadsName s false) more mid q
      → Each (UnloadsName s false) (some ++ more) d q
  each_join [] more d mid q h k = let same : mid ≡ d = (let e : Ok mid ≡ Ok d = h in cc) in subst (λ (x : Done). Each (UnloadsName s false) more x q) same k
  each_join (name ∷ some) more d mid q (Ok next, step, rest) k = (Ok next, step, each_join some more next mid q rest k)
  each_join (name ∷ some) more d mid q (Err reason, step, rest) k = absurd (let e : Ok mid ≡ Err reason = rest in cc)

  -- ---- a purge leaves nothing loaded

  gone_last : (name : Text) (ys : List Entry) (x : Entry) → bytes_eq name x.name ≡ true → has name (names_of ys) ≡ false → without_entry name (ys ++ x ∷ []) ≡ ys
  gone_last name [] x t f = rw t refl
  gone_last name (y ∷ ys) x t f =
      let other = or_left (bytes_eq name y.name) (has name (names_of ys)) f in
      rw other (ap (λ (l : List Entry). y ∷ l) (gone_last name ys x t (or_right (bytes_eq name y.name) (has name (names_of ys)) f)))

  last_is : (x : Entry) (ys : List Entry) → last_meant x.name (ys ++ x ∷ []) ≡ Some x
  last_is x ys = ap (find (λ (y : Entry). means x.name y.name)) (reverse-append ys (x ∷ [])) ∙ rw (means_itself x.name) refl

  went_on : (d next : Done) (m : Move) (messages : List Text) (r : Result Environment RecordReason)
      → Ok next ≡ (refused_as refused_edit r >>= (λ e. Ok (with_move d m messages e))) → r ≡ Ok next.env
  went_on d next m messages (Ok e) h =
      let same : with_move d m messages e ≡ next = (let q : Ok next ≡ Ok (with_move d m messages e) = h in cc) in ap (λ (k : Done). Ok k.env) same
  went_on d next m messages (Err reason) h = absurd (cc)

  edit_made : (r : Result Environment EnvReason) (new : Environment) → edit_outcome r ≡ Ok new → r ≡ Ok new
  edit_made (Ok e) new h = let same : e ≡ new = cc in ap (λ (k : Environment). Ok k) same
  edit_made (Err reason) new h = absurd (cc)

  if_accepted : (b : Bool) (Yes : Result Done RequestReason → Type 0) (reason : RequestReason) (next : Done) → If b Yes (Is (Err reason)) (Ok next) → Yes (Ok next)
  if_accepted true Yes reason next h = h
  if_accepted false Yes reason next h = absurd (let e : Ok next ≡ Err reason = h in cc)

  entry_gone : (typed : Text) (d next : Done) (xs ys : List Entry) (x : Entry) → loaded_in d.env ≡ Some (ys ++ x ∷ []) → has x.name (names_of ys) ≡ false
      → UnloadsEntry s false typed d xs x (Ok next) → loaded_in next.env ≡ Some ys
  entry_gone typed d next xs ys x list absent (Err reason, is, h) = absurd (let e : Ok next ≡ Err reason = h in cc)
  entry_gone typed d next xs ys x list absent (Ok text, is, (Err reason, runs, h)) = absurd (let e : Ok next ≡ Err reason = h in cc)
  entry_gone typed d next xs ys x list absent (Ok text, is, (Ok ran, runs, h)) =
      let m : Module = module_of x.name x.path ran in
      let p = parts (effects unload m.name m.records d.env) (entry_moved (Unloads m)) next.env (went_on d next (Unloads m) ran.messages (moved (Unloads m) d.env) h) in
      dropped_list p.0 next.env x.name (ys ++ x ∷ []) (effects_leave_list unload x.name m.records d.env p.0 p.1 ∙ list) (edit_made (dropped_loaded p.0 x.name) next.env p.2)
      ∙ ap (λ (l : List Entry). Some l) (gone_last x.name ys x (bytes_eq-same x.name) absent)

  one_gone : (d next : Done) (ys : List Entry) (x : Entry) → loaded_in d.env ≡ Some (ys ++ x ∷ []) → has x.name (names_of ys) ≡ false → UnloadsName s false x.name d (Ok next)
      → loaded_in next.env ≡ Some ys
  one_gone d next ys x list absent (Err reason, is, h) = absurd (let e : Ok next ≡ Err reason = h in cc)
  one_gone d next ys x list absent (Ok xs, is, h) =
      let same : xs ≡ ys ++ x ∷ [] = (let q : Ok xs ≡ Ok (ys ++ x ∷ []) = is ∙ ap consistent list in cc) in
      let meant : last_meant x.name xs ≡ Some x = ap (last_meant x.name) same ∙ last_is x ys in
      let k = if_accepted (is_module_name x.name) (UnloadsMeant s false x.name d xs (last_meant x.name xs)) (missed (bad_name x.name)) next h in
      entry_gone x.name d next xs ys x list absent (subst (λ (o : Option Entry). UnloadsMeant s false x.name d xs o (Ok next)) meant k)

  turn : (x : Entry) (rs : List Entry) → reverse (x ∷ rs) ≡ reverse rs ++ x ∷ []
  turn x rs = reverse-append (x ∷ []) rs

  all_gone : (rs : List Entry) (d last : Done) → loaded_in d.env ≡ Some (reverse rs) → are_distinct (names_of (reverse rs)) ≡ true
      → Each (UnloadsName s false) (names_of rs) d (Ok last) → loaded_in last.env ≡ Some []
  all_gone [] d last list once h = let same : last ≡ d = (let e : Ok last ≡ Ok d = h in cc) in ap (λ (k : Done). loaded_in k.env) same ∙ list
  all_gone (x ∷ rs) d last list once (Err reason, step, rest) = absurd (let e : Ok last ≡ Err reason = rest in cc)
  all_gone (x ∷ rs) d last list once (Ok next, step, rest) =
      let names : names_of (reverse (x ∷ rs)) ≡ names_of (reverse rs) ++ x.name ∷ [] = ap names_of (turn x rs) ∙ map-append (λ (y : Entry). y.name) (reverse rs) (x ∷ []) in
      let p = distinct_last x.name (names_of (reverse rs)) (ap are_distinct (sym names) ∙ once) in
      let list' : loaded_in d.env ≡ Some (reverse rs ++ x ∷ []) = list ∙ ap (λ (l : List Entry). Some l) (turn x rs) in
      all_gone rs next last (one_gone d next (reverse rs) x list' p.0 step) p.1 rest

  turned_names : (xs : List Entry) → names_of (reverse xs) ≡ reverse (names_of xs)
  turned_names [] = refl
  turned_names (x ∷ xs) =
      ap names_of (turn x xs) ∙ (map-append (λ (y : Entry). y.name) (reverse xs) (x ∷ [])
      ∙ (ap (λ (l : List Text). l ++ x.name ∷ []) (turned_names xs) ∙ sym (reverse-append (x.name ∷ []) (names_of xs))))

  purged : (xs : List Entry) (d last : Done) → loaded_in d.env ≡ Some xs → are_distinct (names_of xs) ≡ true → Each (UnloadsName s false) (reverse (names_of xs)) d (Ok last)
      → loaded_in last.env ≡ Some []
  purged xs d last list once h =
      let back : reverse (reverse xs) ≡ xs = reverse-reverse xs in
      all_gone (reverse xs) d last (list ∙ ap (λ (l : List Entry). Some l) (sym back)) (ap (λ (l : List Entry). are_distinct (names_of l)) back ∙ once)
      (subst (λ (names : List Text). Each (UnloadsName s false) names d (Ok last)) (sym (turned_names xs)) h)

  -- ---- the end of the request

  -- so no module that is left has lost what it needs
  ends_accepted : (before : List Entry) (last : Done) → loaded_in last.env ≡ Some [] → EndsRequest before last (Ok last)
  ends_accepted before last none = (Ok [], sym (ap consistent none), refl)

  accepted_end : (before : List Entry) (last : Done) (p : Result Done RequestReason) → loaded_in last.env ≡ Some [] → EndsRequest before last p → p ≡ Ok last
  accepted_end before last p none (Err reason, is, h) = absurd (let e : Err reason ≡ Ok [] = is ∙ ap consistent none in cc)
  accepted_end before last p none (Ok after, is, h) =
      let same : after ≡ [] = (let e : Ok after ≡ Ok [] = is ∙ ap consistent none in cc) in
      h ∙ ap (λ (l : List Entry). unless (end_objection before l) (Ok last)) same

  ended_alike : (here : Done) (before first : List Entry) (names : List Text) (q r p : Result Done RequestReason) → EndAlike r q
      → ((last : Done) → q ≡ Ok last → loaded_in last.env ≡ Some []) → Each (UnloadsName s false) names here r → After (EndsRequest first) q p
      → DoesAlike (λ k o. (t : Result Done RequestReason) × Each (UnloadsName s false) names k t × After (EndsRequest before) t o) here p
  ended_alike here before first names (Ok last) (Ok now) p alike none steps end =
      let empty = none last refl in
      record {
        result = Ok now;
        step = (Ok now, steps, ends_accepted before now (ap loaded_in alike ∙ empty));
        alike = accepted_alike now last p (accepted_end first last p empty end) alike;
      }
  ended_alike here before first names (Ok last) (Err reason) p alike none steps end = absurd alike
  ended_alike here before first names (Err reason) (Ok now) p alike none steps end = absurd alike
  ended_alike here before first names (Err reason) (Err now) p alike none steps end =
      record { result = Err now; step = (Err now, steps, refl); alike = subst (EndAlike (Err now)) (sym end) alike }

  -- the request with the names in another form
  by_other_names : (here : Done) (before : List Entry) (o : Result Done RequestReason) (some names : List Text) → names ≡ some
      → (t : Result Done RequestReason) × Each (UnloadsName s false) some here t × After (EndsRequest before) t o
      → (t : Result Done RequestReason) × Each (UnloadsName s false) names here t × After (EndsRequest before) t o
  by_other_names here before o some names same h =
      subst (λ (l : List Text). (t : Result Done RequestReason) × Each (UnloadsName s false) l here t × After (EndsRequest before) t o) (sym same) h

alike_so : (o r p : Result Done RequestReason) → o ≡ r → EndAlike r p → EndAlike o p
alike_so o r p same alike = subst (λ (x : Result Done RequestReason). EndAlike x p) (sym same) alike

-- ---- purge

-- the names of live modules, the newest first
abbrev newest_first : List Module → List Text
newest_first live = map (λ m. m.name) live

turned : (first : List Entry) (live : List Module) → reverse (names_of (entries_over first live)) ≡ newest_first live ++ reverse (names_of first)
turned first [] = refl
turned first (m ∷ live) =
    ap reverse (map-append (λ (x : Entry). x.name) (entries_over first live) (entry_of m ∷ []))
    ∙ (reverse-append (names_of (entries_over first live)) (m.name ∷ []) ∙ ap (λ (names : List Text). m.name ∷ names) (turned first live))

own_name : (m : Module) (live : List Module) → without_meant m.name (m ∷ live) ≡ live
own_name m live = rw (means_itself m.name) refl

of_all : (first : List Entry) (live : List Module) → ((l : Module) → IsAmong l live → is_module_name l.name ≡ true)
    → AreOfLive first (newest_first live) live × (without_all (newest_first live) live ≡ [])
of_all first [] h = (tt, refl)
of_all first (m ∷ live) h =
    let rest = of_all first live (λ l a. h l (inr a)) in
    let newest : means_one m.name (m ∷ live) ≡ true = rw (means_itself m.name) refl in (
      (h m (inl refl), inl newest, subst (AreOfLive first (newest_first live)) (sym (own_name m live)) rest.0),
      ap (without_all (newest_first live)) (own_name m live) ∙ rest.1,
    )

pub purges_end_as_at_start : requests.OneOutcome → (s : RequestContext) (start : Environment) (IsOver : List Module → Environment → Type 0) (IsOf : Module → Type 0) → CanUnload s start IsOver IsOf → NoneIsStart IsOver start
    → AreLoadedInOrder start → (e : Environment) (live : List Module) (o p : Result Done RequestReason) → ((l : Module) → IsAmong l live → is_module_name l.name ≡ true)
    → ((l : Module) → IsAmong l live → IsOf l) → IsOver live e → RequestStep s e purge o → RequestStep s start purge p → EndAlike o p
purges_end_as_at_start outcome s start IsOver IsOf can back order e live o p spelled kinds over step (Err reason, is, h) =
    let xs = list_in_order start order in absurd (let q : Err reason ≡ Ok xs.0 = is ∙ ap consistent xs.1 in cc)
purges_end_as_at_start outcome s start IsOver IsOf can back order e live o p spelled kinds over step (Ok first, is, (q, steps, end)) =
    let xs = list_in_order start order in
    let begins : loaded_in start ≡ Some first = (let same : xs.0 ≡ first = (let t : Ok first ≡ Ok xs.0 = is ∙ ap consistent xs.1 in cc) in xs.1 ∙ ap (λ (l : List Entry). Some l) same) in
    let once : are_distinct (names_of first) ≡ true = subst (λ (l : List Entry). are_distinct (names_of l) ≡ true) (same_Some xs.0 first (sym xs.1 ∙ begins)) xs.2.once in
    let n = of_all first live spelled in
    let k = each_name s start IsOver IsOf can live live first (newest_first live) (nothing_done e) begins n.0 (λ m a. kinds m (taken_live m (newest_first live) live a))
    (record { over = over; moved = refl }) in
    let at_start : k.done.env ≡ start = back k.done.env (subst (λ (l : List Module). IsOver l k.done.env) n.1 k.way.over) in
    let r = each_alike s (reverse (names_of first)) (nothing_done start) k.done q at_start steps in
    let all = each_join s (newest_first live) (reverse (names_of first)) (nothing_done e) k.done r.result k.steps r.step in
    let before = entries_over first live in
    let ended = ended_alike s (nothing_done e) before first (newest_first live ++ reverse (names_of first)) q r.result p r.alike
    (λ last same. purged s first (nothing_done start) last begins once (subst (Each (UnloadsName s false) (reverse (names_of first)) (nothing_done start)) same steps)) all end in
    let list : loaded_in e ≡ Some before = can.entries live e first begins over in
    alike_so o ended.result p (outcome s e purge o ended.result step (
      Ok before,
      sym (ap consistent list),
      by_other_names s (nothing_done e) before ended.result (newest_first live ++ reverse (names_of first)) (reverse (names_of before)) (turned first live) ended.step,
    )) ended.alike

pub alike_back : (o : Result Done RequestReason) (d : Done) → EndAlike o (Ok d) → IsBack d.env o
alike_back (Ok done) d alike = (done, refl, alike)
alike_back (Err reason) d alike = absurd alike

-- where nothing is loaded at the start, it leads there
pub purges_return : requests.OneOutcome → (s : RequestContext) (start : Environment) (IsOver : List Module → Environment → Type 0) (IsOf : Module → Type 0) → CanUnload s start IsOver IsOf → NoneIsStart IsOver start
    → AreLoadedInOrder start → (e : Environment) (live : List Module) (o : Result Done RequestReason) → ((l : Module) → IsAmong l live → is_module_name l.name ≡ true)
    → ((l : Module) → IsAmong l live → IsOf l) → IsOver live e → loaded_in start ≡ Some [] → RequestStep s e purge o → IsBack start o
purges_return outcome s start IsOver IsOf can back order e live o spelled kinds over begins step =
    let none : Ok [] ≡ consistent (loaded_in start) = sym (ap consistent begins) in
    alike_back o (nothing_done start) (purges_end_as_at_start outcome s start IsOver IsOf can back order e live o (Ok (nothing_done start)) spelled kinds over step
    (Ok [], none, (Ok (nothing_done start), refl, (Ok [], none, refl))))

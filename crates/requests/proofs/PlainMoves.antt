-- In a session of modules whose files are plain, the records of each unload are those of the load that it undoes.
use Rattle.std.proofs.Common.{◌≡◌, inl, inr, Bool, true, false, cond, ◌&&◌, ◌||◌, List, [], ◌∷◌, ◌++◌, Some, Ok, Err}
use Rattle.std.proofs.Common.{refl, ap, sym, ◌∙◌, subst}
use Rattle.std.specs.Prelude.{bytes_eq}
use Rattle.std.specs.List.{list_any}
use Rattle.std.proofs.lemmas.Bool.{and_parts}
use Rattle.std.proofs.lemmas.List.{map-append}
use Rattle.std.proofs.lemmas.List.Folds.{list_any-append}
use Rattle.std.proofs.lemmas.Slice.Eq.{bytes_eq-Decides}
use Rattle.envvars.specs.Texts.{Text, has}
use Rattle.envvars.specs.Fields.{are_distinct}
use Rattle.envvars.specs.Environment.{Environment}
use Rattle.envvars.proofs.ChangeLemmas.{are_distinct-push}
use Rattle.envstate.specs.loaded_list.Loaded.{Entry, names_of, loaded_in}
use Rattle.filetree.specs.Modulefiles.{script, modulefile}
use Rattle.shelltext.specs.declared.shell.Shell.{Shell}
use Rattle.modulefile.specs.Moves.{Module, Move, Loads, Unloads, entry_of, Fits, MovesReach}
use Rattle.modulefile.specs.Files.{Ran, RunsFile, IsSameOrRefused}
use Rattle.modulefile.specs.Laws.{PlainFilesAgree}
use Rattle.reversal.specs.VariableUses.{VariableUse}
use Rattle.reversal.specs.Live.{entries_over}
use Rattle.reversal.specs.Undone.{undo_of}
use Rattle.reversal.specs.Starts.{IsInOrder, IsStart, IsStartWith}
use Rattle.reversal.specs.Runs.{live_named, without_live, AreReversibleTogether}
use Rattle.reversal.specs.Laws.{RunsReturn, MovesPreserve}
use Rattle.requests.specs.Requests.{Request}
use Rattle.requests.specs.Steps.{RequestContext}
use Rattle.requests.specs.Sessions.{Response, accepted, refused, given_up, IsResponse, env_after, end_environment}
use Rattle.requests.specs.Sessions.{in_shell, Session, session_moves}
use Rattle.requests.specs.Returning.{AreNew, UndoesItsLoad, AreReversibleBeside}
use Rattle.requests.specs.PlainRuns.{HasEvaluatedTo, IsPlain, ArePlain}
use Rattle.requests.specs.Laws.{SessionsReach, SessionsReturn, PlainSessionsReturn}
use Rattle.requests.proofs.Undone.{entries_at, entries_read, is_entry_of, not_among, same_list, undoes}
use Rattle.requests.proofs.Origins.{IsFrom, AllFrom, all_both, traced}

-- ---- the live module of an entry

same_text : (a b : Text) → bytes_eq a b ≡ true → a ≡ b
same_text a b = (bytes_eq-Decides a b).0

same_module : (m n : Module) → Some m ≡ Some n → m ≡ n
same_module m n e = cc

newest : (m n : Module) (older : List Entry) (o p : Bool) → bytes_eq m.name n.name ≡ true → has n.name (names_of older) ≡ false → list_any (is_entry_of m) older ≡ o → bytes_eq m.path n.path ≡ p
    → (o || ((bytes_eq m.name n.name && p) || false)) ≡ true → (m.name ≡ n.name) × (m.path ≡ n.path)
newest m n older true p e apart any path h =
    let name : m.name ≡ n.name = same_text m.name n.name e in
    absurd (let q : false ≡ true = not_among m older (subst (λ (x : Text). has x (names_of older) ≡ false) (sym name) apart) any in cc)
newest m n older false true e apart any path h = (same_text m.name n.name e, same_text m.path n.path path)
newest m n older false false e apart any path h = absurd
    (let q : (bytes_eq m.name n.name && false) ≡ true = no_false (bytes_eq m.name n.name && false) h in let r =
    and_parts (bytes_eq m.name n.name) false q in let z : false ≡ true = r.1 in cc)
  where
    no_false : (b : Bool) → (b || false) ≡ true → b ≡ true
    no_false true h = refl
    no_false false h = h

older_any : (m n : Module) (o : Bool) → bytes_eq m.name n.name ≡ false → (o || ((bytes_eq m.name n.name && bytes_eq m.path n.path) || false)) ≡ true → o ≡ true
older_any m n true e h = refl
older_any m n false e h = absurd (let q : (false || ((false && bytes_eq m.path n.path) || false)) ≡ true = subst (λ (b : Bool). (false || ((b && bytes_eq m.path n.path) || false)) ≡ true) e h in cc)

same_at : (m n l : Module) (bs : List Entry) (live : List Module) (b : Bool) → bytes_eq m.name n.name ≡ b → are_distinct (names_of (entries_over bs live) ++ n.name ∷ []) ≡ true
    → (list_any (is_entry_of m) (entries_over bs live) || ((bytes_eq m.name n.name && bytes_eq m.path n.path) || false)) ≡ true
    → cond b (Some n) (live_named m.name live) ≡ Some l
    → (are_distinct (names_of (entries_over bs live)) ≡ true → list_any (is_entry_of m) (entries_over bs live) ≡ true → live_named m.name live ≡ Some l → (m.name ≡ l.name) × (m.path ≡ l.path))
    → (m.name ≡ l.name) × (m.path ≡ l.path)
same_at m n l bs live true e distinct any found more =
    let d = are_distinct-push (names_of (entries_over bs live)) n.name distinct in
    subst (λ (x : Module). (m.name ≡ x.name) × (m.path ≡ x.path)) (same_module n l found)
    (newest m n (entries_over bs live) (list_any (is_entry_of m) (entries_over bs live)) (bytes_eq m.path n.path) e d.1 refl refl any)
same_at m n l bs live false e distinct any found more =
    let d = are_distinct-push (names_of (entries_over bs live)) n.name distinct in
    more d.0 (older_any m n (list_any (is_entry_of m) (entries_over bs live)) e any) found

pub same_live : (m l : Module) (bs : List Entry) (live : List Module)
    → are_distinct (names_of (entries_over bs live)) ≡ true → list_any (is_entry_of m) (entries_over bs live) ≡ true
    → live_named m.name live ≡ Some l → (m.name ≡ l.name) × (m.path ≡ l.path)
same_live m l bs [] distinct any found = absurd (cc)
same_live m l bs (n ∷ live) distinct any found =
    same_at m n l bs live (bytes_eq m.name n.name) refl
    (subst (λ (xs : List Text). are_distinct xs ≡ true) (map-append (λ (x : Entry). x.name) (entries_over bs live) (entry_of n ∷ [])) distinct)
    (sym (list_any-append (is_entry_of m) (entries_over bs live) (entry_of n ∷ [])) ∙ any) found (same_live m l bs live)

-- ---- plain files

abbrev LiveFrom : RequestContext → List Module → Type 0
LiveFrom s [] = Unit {0}
LiveFrom s (m ∷ live) = (IsFrom s m × IsPlain s m.name m.path) × LiveFrom s live

live_from_step : (s : RequestContext) (n l : Module) (name : Text) (live : List Module) (b : Bool) → (IsFrom s n × IsPlain s n.name n.path) → cond b (Some n) (live_named name live) ≡ Some l
    → (live_named name live ≡ Some l → IsFrom s l × IsPlain s l.name l.path) → IsFrom s l × IsPlain s l.name l.path
live_from_step s n l name live true h found more = subst (λ (x : Module). IsFrom s x × IsPlain s x.name x.path) (same_module n l found) h
live_from_step s n l name live false h found more = more found

live_from : (s : RequestContext) (name : Text) (live : List Module) (l : Module) → LiveFrom s live → live_named name live ≡ Some l → IsFrom s l × IsPlain s l.name l.path
live_from s name [] l h found = absurd (cc)
live_from s name (n ∷ live) l h found = live_from_step s n l name live (bytes_eq name n.name) h.0 found (live_from s name live l h.1)

without_step : (s : RequestContext) (n : Module) (live rest : List Module) (b : Bool) → (IsFrom s n × IsPlain s n.name n.path) → LiveFrom s live → LiveFrom s rest → LiveFrom s (cond b live (n ∷ rest))
without_step s n live rest true h more less = more
without_step s n live rest false h more less = (h, less)

without_from : (s : RequestContext) (name : Text) (live : List Module) → LiveFrom s live → LiveFrom s (without_live name live)
without_from s name [] h = tt
without_from s name (n ∷ live) h = without_step s n live (without_live name live) (bytes_eq name n.name) h.0 h.1 (without_from s name live h.1)

one_script : (s : RequestContext) (path a b : Text) → modulefile (s.files path) ≡ script a → modulefile (s.files path) ≡ script b → a ≡ b
one_script s path a b h k = let q : script a ≡ script b = sym h ∙ k in cc

agreed : (ran other : Ran) → IsSameOrRefused ran (Ok other) → other.records ≡ ran.records
agreed ran other (inl (again, same, records)) = let q : other ≡ again = (let r : Ok other ≡ Ok again = same in cc) in ap (λ (x : Ran). x.records) q ∙ records
agreed ran other (inr (n, refusal, reason, same, stop)) = absurd (let r : Ok other ≡ Err reason = same in cc)

pub same_records : PlainFilesAgree → (s : RequestContext) (name path : Text) (ran other : Ran)
    → HasEvaluatedTo s name path ran → ran.asked ≡ [] → HasEvaluatedTo s name path other
    → other.records ≡ ran.records
same_records agree s name path ran other h unasked k =
    agreed ran other (agree s.limits h.context k.context h.text ran (Ok other) h.runs unasked (k.named ∙ sym h.named) (k.at_path ∙ sym h.at_path)
    (subst (λ (t : Text). RunsFile s.limits k.context t (Ok other)) (one_script s path k.text h.text k.file h.file) k.runs))

pub moved_left : (s : RequestContext) (a b c d : Text) (ran : Ran) → a ≡ b → c ≡ d → HasEvaluatedTo s a c ran → HasEvaluatedTo s b d ran
moved_left s a b c d ran e g h = subst (λ (x : Text). HasEvaluatedTo s x d ran) e (subst (λ (x : Text). HasEvaluatedTo s a x ran) g h)

unload_records : PlainFilesAgree → (s : RequestContext) (m l : Module) → m.name ≡ l.name → m.path ≡ l.path → IsFrom s m → IsFrom s l → IsPlain s l.name l.path → m.records ≡ l.records
unload_records agree s m l name path (ran, left, is) (other, loaded, was) (plain, one, unasked) =
    is ∙ (same_records agree s l.name l.path plain ran one unasked (moved_left s m.name l.name m.path l.path ran name path left)
    ∙ (sym (same_records agree s l.name l.path plain other one unasked loaded) ∙ sym was))

-- ---- moves

has_records : PlainFilesAgree → (s : RequestContext) (uses : Text → VariableUse) (start old : Environment)
    (bs : List Entry) (live : List Module) (m : Module) → loaded_in start ≡ Some bs → IsInOrder uses old
    → IsStartWith uses start live old → LiveFrom s live → IsFrom s m → Fits (Unloads m) old → UndoesItsLoad live m
has_records agree s uses start old bs live m list order start_with_live froms from (xs, read, any) l found =
    let now : loaded_in old ≡ Some (entries_over bs live) = start_with_live.entries bs list in
    let same : xs ≡ entries_over bs live = same_list xs (entries_over bs live) (sym read ∙ now) in
    let same_entries : order.loaded.entries ≡ entries_over bs live = same_list order.loaded.entries (entries_over bs live) (sym (entries_read old order.loaded) ∙ now) in
    let distinct : are_distinct (names_of (entries_over bs live)) ≡ true = subst (λ (ys : List Entry). are_distinct (names_of ys) ≡ true) same_entries order.loaded.list.names in
    let p = same_live m l bs live distinct (subst (λ (ys : List Entry). list_any (is_entry_of m) ys ≡ true) same any) found in
    let f = live_from s m.name live l froms found in
    ap undo_of (unload_records agree s m l p.0 p.1 from f.0 f.1)

fitting : MovesPreserve → PlainFilesAgree → (uses : Text → VariableUse) (s : RequestContext) (start : Environment)
    → IsStart uses start → (ms : List Move) (live : List Module) (old new : Environment) → IsInOrder uses old
    → IsStartWith uses start live old → AreReversibleTogether uses live → LiveFrom s live → AllFrom s ms
    → AreNew start ms → ArePlain s uses live ms → MovesReach ms old new → AreReversibleBeside uses live ms
fitting step_law agree uses s start begin [] live old new order start_with_live fit froms from news plains reach = tt
fitting step_law agree uses s start begin (Loads m ∷ ms) live old new order start_with_live fit froms from news plains (fits, (mid, move, reach)) =
    let h = step_law uses start old mid live (Loads m ∷ []) begin order start_with_live fit (plains.0.0, tt) (fits, (mid, move, refl)) in
    (plains.0.0, fitting step_law agree uses s start begin ms (m ∷ live) mid new h.0.order h.0.start_with_live h.1 ((from.0, plains.0.1), froms) from.1 news.1 plains.1 reach)
fitting step_law agree uses s start begin (Unloads m ∷ ms) live old new order start_with_live fit froms from news plains (fits, (mid, move, reach)) =
    let bs = entries_at start begin.order.loaded in
    let records : UndoesItsLoad live m = has_records agree s uses start old bs.0 live m bs.1 order start_with_live froms from.0 fits in
    let u = undoes uses start old bs.0 live m bs.1 start_with_live news.0 records fits in
    let h = step_law uses start old mid live (Unloads m ∷ []) begin order start_with_live fit (u, tt) (fits, (mid, move, refl)) in
    (records, fitting step_law agree uses s start begin ms (without_live m.name live) mid new h.0.order h.0.start_with_live h.1 (without_from s m.name live froms) from.1 news.1 plains reach)

same_site : (s : RequestContext) (shell : Shell) (ms : List Move) → AllFrom (in_shell s shell) ms → AllFrom s ms
same_site s shell [] h = tt
same_site s shell (m ∷ ms) ((ran, left, is), rest) =
    ((ran, record { text = left.text; file = left.file; context = left.context; named = left.named; at_path = left.at_path; runs = left.runs }, is), same_site s shell ms rest)

response_from : (s : RequestContext) (e : Environment) (r : Request) (o : Response) → IsResponse (in_shell s r.0) e r.1 o → AllFrom s (session_moves (o ∷ []))
response_from s e r (accepted d) h = all_both s d.moves [] (same_site s r.0 d.moves (traced (in_shell s r.0) e r.1 d h)) tt
response_from s e r (refused reason) h = tt
response_from s e r (given_up n) h = tt

one_response : (o : Response) (os : List Response) (s : RequestContext) → AllFrom s (session_moves (o ∷ [])) → AllFrom s (session_moves os) → AllFrom s (session_moves (o ∷ os))
one_response (accepted d) os s h k = all_both s d.moves (session_moves os) (front s d.moves h) k
  where
    front : (s : RequestContext) (ms : List Move) → AllFrom s (ms ++ []) → AllFrom s ms
    front s [] h = tt
    front s (m ∷ ms) h = (h.0, front s ms h.1)
one_response (refused reason) os s h k = k
one_response (given_up n) os s h k = k

pub session_from : (s : RequestContext) (e : Environment) (rs : List Request) (os : List Response) → Session s e rs os → AllFrom s (session_moves os)
session_from s e [] [] h = tt
session_from s e [] (o ∷ os) h = absurd h
session_from s e (r ∷ rs) [] h = absurd h
session_from s e (r ∷ rs) (o ∷ os) h = one_response o os s (response_from s e r o h.0) (session_from s (env_after e o) rs os h.1)

pub plain_sessions_return : SessionsReach → RunsReturn → MovesPreserve → PlainFilesAgree → SessionsReturn → PlainSessionsReturn
plain_sessions_return leads runs step_law agree returns uses s start rs before after begin session news plains =
    let os = before ++ after in
    let none = runs uses start start [] begin tt refl in
    let fits : AreReversibleBeside uses [] (session_moves os) =
    fitting step_law agree uses s start begin (session_moves os) [] start (end_environment start os) none.order
    none.start_with_live tt tt (session_from s start rs os session) news plains (leads s start rs os session) in
    returns uses s start rs before after begin session news fits

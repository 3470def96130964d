-- The records of an evaluation have their effects: each was added only after its effect on what the ones before it made.
use Rattle.std.proofs.Common.{◌≡◌, Bool, true, false, List, [], ◌∷◌, ◌++◌, Result, Ok, Err, is_ok, refl, ap, sym, subst}
use Rattle.envvars.specs.Texts.{Text}
use Rattle.envvars.specs.Names.{is_variable_name}
use Rattle.envvars.specs.Environment.{Environment}
use Rattle.tclrules.specs.Oracle as oracle
use Rattle.tclrules.specs.Oracle.{Nothing, addition, records_with}
use Rattle.modulefile.specs.Records.{Record}
use Rattle.modulefile.specs.Judgments.{RecordReason}
use Rattle.modulefile.specs.Effects.{Mode, effect, effects}
use Rattle.modulefile.proofs.Effected.{whole, effects_go_on}
use Rattle.modulefile.specs.Results.{◌>>=◌}
use Rattle.modulefile.specs.Calls as calls
use Rattle.modulefile.specs.Calls.{adds_record, adds_message, getenv, is_loaded, own_name, typed_name, info, info_test}
use Rattle.modulefile.specs.Calls.{CallReason, unknown, unsupported, bad_record, CallForm, call_of}
use Rattle.modulefile.specs.Answers.{FileContext, not_done, record_answer, variable_answer, command_answer, record_of}
use Rattle.modulefile.specs.Answers.{records_in, record_outcome, effects_so_far, or_before, environment_after}
use Rattle.modulefile.specs.Answers.{value_shown}
use Rattle.modulefile.proofs.Bound.{bound, bind_ok}

ok_value : {A R : Type 0} (r : Result A R) → is_ok r ≡ true → (a : A) × (r ≡ Ok a)
ok_value (Ok a) h = (a, refl)
ok_value (Err e) h = absurd (cc)

pub by_record_ok : (r : Result Environment RecordReason) (e : Environment) → record_outcome r ≡ Ok e → r ≡ Ok e
by_record_ok (Ok d) e h = cc
by_record_ok (Err x) e h = absurd (cc)

pub records_more : (rs : List oracle.CommandWords) (words : List Text) (ys : List Record) (r : Record)
    → records_in rs ≡ Ok ys → (call_of words >>= record_of) ≡ Ok r → records_in (rs ++ words ∷ []) ≡ Ok (ys ++ r ∷ [])
records_more [] words ys r h k =
    let e : ys ≡ [] = cc in
    bind_ok (call_of words >>= record_of) (λ x. records_in [] >>= (λ xs. Ok (x ∷ xs))) r (ys ++ r ∷ []) k (ap (λ zs. Ok (zs ++ r ∷ [])) (sym e))
records_more (v ∷ rs) words ys r h k =
    let b = bound (call_of v >>= record_of) (λ x. records_in rs >>= (λ xs. Ok (x ∷ xs))) ys h in
    let d = bound (records_in rs) (λ xs. Ok (b.0 ∷ xs)) ys b.2 in
    let e : b.0 ∷ d.0 ≡ ys = cc in
    bind_ok (call_of v >>= record_of) (λ x. records_in (rs ++ words ∷ []) >>= (λ xs. Ok (x ∷ xs))) b.0 (ys ++ r ∷ []) b.1
    (bind_ok (records_in (rs ++ words ∷ [])) (λ xs. Ok (b.0 ∷ xs)) (d.0 ++ r ∷ []) (ys ++ r ∷ []) (records_more rs words d.0 r d.1 k) (ap (λ zs. Ok (zs ++ r ∷ [])) e))

pub effects_more : (mode : Mode) (owner : Text) (ys : List Record) (r : Record) (e d t : Environment)
    → effects mode owner ys e ≡ Ok d → effect mode owner r d ≡ Ok t → effects mode owner (ys ++ r ∷ []) e ≡ Ok t
effects_more mode owner ys r e d t h k = effects_go_on mode owner ys (r ∷ []) e d t h (whole (effect mode owner r d) (effects mode owner []) t t k refl)

abbrev HasEffects : FileContext → List oracle.CommandWords → Type 0
HasEffects c rs = is_ok (effects_so_far c rs) ≡ true

adds_nothing : (o : CallReason) → addition (not_done o) ≡ Nothing
adds_nothing unknown = refl
adds_nothing (unsupported name) = refl
adds_nothing calls.bad_arguments = refl
adds_nothing (bad_record reason) = refl

nothing_has_effects : (c : FileContext) (rs : List oracle.CommandWords) (o : CallReason) → HasEffects c rs → HasEffects c (records_with rs (addition (not_done o)))
nothing_has_effects c rs o h = subst (λ a. HasEffects c (records_with rs a)) (sym (adds_nothing o)) h

-- what holds again after a command where the records so far have their effects
pub record IsSoFar (c : FileContext) (rs : List oracle.CommandWords) : Type 0 where
  pub records : List Record
  pub env : Environment
  pub read : records_in rs ≡ Ok records
  pub made : effects c.mode c.name records c.before ≡ Ok env

pub so_far : (c : FileContext) (rs : List oracle.CommandWords) → HasEffects c rs → IsSoFar c rs
so_far c rs h =
    let v = ok_value (effects_so_far c rs) h in
    let b = bound (records_in rs) (λ ys. record_outcome (effects c.mode c.name ys c.before)) v.0 v.1 in
    record { records = b.0; env = v.0; read = b.1; made = by_record_ok (effects c.mode c.name b.0 c.before) v.0 b.2 }

go_on : (c : FileContext) (rs : List oracle.CommandWords) (ys : List Record) (e : Environment) → records_in rs ≡ Ok ys → effects c.mode c.name ys c.before ≡ Ok e → effects_so_far c rs ≡ Ok e
go_on c rs ys e r m = bind_ok (records_in rs) (λ zs. record_outcome (effects c.mode c.name zs c.before)) ys e r (ap record_outcome m)

record_has_effects : (c : FileContext) (rs : List oracle.CommandWords) (words : List Text) (r : Record)
    → call_of words ≡ Ok (adds_record r) → HasEffects c rs → (result : Result Environment RecordReason)
    → effect c.mode c.name r (environment_after c rs) ≡ result
    → HasEffects c (records_with rs (addition (record_answer words result)))
record_has_effects c rs words r k h (Err o) e = nothing_has_effects c rs (bad_record o) h
record_has_effects c rs words r k h (Ok t) e =
    let s = so_far c rs h in
    let f : environment_after c rs ≡ s.env = ap (or_before c.before) (go_on c rs s.records s.env s.read s.made) in
    let g : effect c.mode c.name r s.env ≡ Ok t = subst (λ x. effect c.mode c.name r x ≡ Ok t) f e in
    let m : records_in (rs ++ words ∷ []) ≡ Ok (s.records ++ r ∷ []) = records_more rs words s.records r s.read (bind_ok (call_of words) record_of (adds_record r) r k refl) in
    ap (λ x. is_ok x) (go_on c (rs ++ words ∷ []) (s.records ++ r ∷ []) t m (effects_more c.mode c.name s.records r c.before s.env t s.made g))

read_has_effects : (c : FileContext) (rs : List oracle.CommandWords) (var value : Text) → HasEffects c rs → HasEffects c (records_with rs (addition (variable_answer var value)))
read_has_effects c rs var value h = go (is_variable_name var) refl
  where
    go : (b : Bool) → is_variable_name var ≡ b → HasEffects c (records_with rs (addition (variable_answer var value)))
    go true q = rw q h
    go false q = rw q h

call_has_effects : (c : FileContext) (rs : List oracle.CommandWords) (words : List Text) → HasEffects c rs
    → (call : CallForm) → call_of words ≡ call → HasEffects c
    (records_with rs (addition (command_answer c (environment_after c rs) words call)))
call_has_effects c rs words h (Err o) e = nothing_has_effects c rs o h
call_has_effects c rs words h (Ok (adds_record r)) e = record_has_effects c rs words r e h (effect c.mode c.name r (environment_after c rs)) refl
call_has_effects c rs words h (Ok (adds_message message)) e = h
call_has_effects c rs words h (Ok (getenv var default)) e = read_has_effects c rs var (value_shown c.mode (environment_after c rs) var default) h
call_has_effects c rs words h (Ok (is_loaded names)) e = h
call_has_effects c rs words h (Ok own_name) e = h
call_has_effects c rs words h (Ok typed_name) e = h
call_has_effects c rs words h (Ok (info field)) e = h
call_has_effects c rs words h (Ok (info_test field word)) e = h

pub answer_has_effects : (c : FileContext) (rs : List oracle.CommandWords) (words : List Text) → HasEffects c rs
    → HasEffects c (records_with rs (addition (command_answer c (environment_after c rs) words (call_of words))))
answer_has_effects c rs words h = call_has_effects c rs words h (call_of words) refl

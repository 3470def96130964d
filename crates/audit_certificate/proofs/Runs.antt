-- Moves of certified modules, one after the other.
use Rattle.std.proofs.Common.{◌≡◌, inl, inr, Bool, true, false, cond, List, [], ◌∷◌, ◌++◌, refl, sym, ◌∙◌, subst, Some}
use Rattle.std.proofs.Common.{Ok}
use Rattle.std.specs.Prelude.{bytes_eq}
use Rattle.std.proofs.lemmas.Option.{same_Some}
use Rattle.envvars.specs.Texts.{Text, has}
use Rattle.envvars.specs.Environment.{Environment}
use Rattle.envstate.specs.loaded_list.Loaded.{Entry, names_of, loaded_in}
use Rattle.envstate.proofs.StateLemmas.{list_in_order}
use Rattle.modulefile.specs.Moves.{Module, Move, Loads, Unloads, Fits, moved, MovesReach}
use Rattle.reversal.specs.VariableUses.{VariableUse}
use Rattle.reversal.specs.Live.{entries_over}
use Rattle.reversal.specs.Runs.{without_live, live_after, Undoes}
use Rattle.reversal.specs.Laws.{Holds, RunsReturn, MovesPreserve}
use Rattle.audit_certificate.specs.RecordUses.{used_by, used_by_modules, IsAmong, uses_by}
use Rattle.audit_certificate.specs.Candidates.{Candidate}
use Rattle.audit_certificate.specs.Clashes.{in_conflict}
use Rattle.audit_certificate.specs.Certificates.{AgreesWith}
use Rattle.audit_certificate.specs.Laws.{IsAsCertified, AreCertified, AreCertifiedTogether, AreLayered, CertifiedRunsStand}
use Rattle.audit_certificate.specs.Laws.{CertifiedMovesPreserve, NoneIsLayered, LoadedStayLoaded}
use Rattle.audit_certificate.proofs.UsedLemmas.{by_cases, used_among, user_of, first_or_none, neither}
use Rattle.audit_certificate.proofs.OneUse.{of_kind, one_use, each_use, AreUses, newest_fits, all_fit}
use Rattle.audit_certificate.proofs.MovedVariables.{not_named, not_at_start}
use Rattle.audit_certificate.proofs.Moments.{AreUsesButForUnused, is_start, with_newest, by_fewer, taken_up}
use Rattle.audit_certificate.proofs.Moments.{laid_down}

-- A module that is loaded beside live ones, and the live ones without one of them.

newest : (ms : List Candidate) (live : List Module) (m : Module) (start old : Environment) → AreLayered ms start live old → IsAsCertified ms m
    → ((n : Module) → IsAmong n live → in_conflict m n ≡ false) → Fits (Loads m) old → AreCertifiedTogether ms (m ∷ live)
newest ms live m start old s c k fits = (c, (λ n b. neither (bytes_eq m.name n.name) (in_conflict m n) (not_named m.name first.0 live absent n b) (k n b)), s.together)
  where
    first : (xs : List Entry) × (loaded_in start ≡ Some xs)
    first = let p = list_in_order start s.begins.order.loaded in (p.0, p.1)

    absent : has m.name (names_of (entries_over first.0 live)) ≡ false
    absent = subst (λ (zs : List Entry). has m.name (names_of zs) ≡ false)
        (same_Some fits.0 (entries_over first.0 live) (sym fits.1 ∙ s.start_with_live.entries first.0 first.1)) fits.2

left_at : (name : Text) (m : Module) (live : List Module) (b : Bool) (n : Module)
    → (IsAmong n (without_live name live) → IsAmong n live) → IsAmong n (cond b live (m ∷ without_live name live))
    → IsAmong n (m ∷ live)
left_at name m live true n h a = inr a
left_at name m live false n h (inl e) = inl e
left_at name m live false n h (inr a) = inr (h a)

left_among : (name : Text) (live : List Module) (n : Module) → IsAmong n (without_live name live) → IsAmong n live
left_among name [] n a = a
left_among name (m ∷ live) n a = left_at name m live (bytes_eq name m.name) n (left_among name live n) a

less_at : (ms : List Candidate) (name : Text) (m : Module) (live : List Module) (b : Bool)
    → AreCertifiedTogether ms (m ∷ live) → AreCertifiedTogether ms (without_live name live)
    → AreCertifiedTogether ms (cond b live (m ∷ without_live name live))
less_at ms name m live true t h = t.2
less_at ms name m live false t h = (t.0, (λ n a. t.1 n (left_among name live n a)), h)

less_together : (ms : List Candidate) (name : Text) (live : List Module) → AreCertifiedTogether ms live → AreCertifiedTogether ms (without_live name live)
less_together ms name [] t = tt
less_together ms name (m ∷ live) t = less_at ms name m live (bytes_eq name m.name) t (less_together ms name live t.2)

less_used : (name v : Text) (x : VariableUse) (live : List Module) → IsAmong (v, x) (used_by_modules (without_live name live)) → IsAmong (v, x) (used_by_modules live)
less_used name v x live a = let p = user_of v x (without_live name live) a in used_among v x p.user live (left_among name live p.user p.there) p.uses

used_of : (ms : List Candidate) (live : List Module) → AreCertifiedTogether ms live → AreUses (uses_by live) live
used_of ms live t = each_use live (one_use ms live t)

held : MovesPreserve → (ms : List Candidate) (live : List Module) (start e : Environment) → AreLayered ms start live e → Holds (uses_by live) start live e
held preserve ms live start e s =
    (preserve (uses_by live) start e e live [] s.begins s.order s.start_with_live (all_fit ms live (uses_by live) s.together (used_of ms live s.together)) tt refl).0

-- A load: the uses of the module are taken up before it.
loaded : RunsReturn → MovesPreserve → (ms : List Candidate) (live : List Module) (m : Module) (start old new : Environment) → AreLayered ms start live old → IsAsCertified ms m
    → AgreesWith (used_by m.records) start → ((n : Module) → IsAmong n live → in_conflict m n ≡ false) → Fits (Loads m) old → moved (Loads m) old ≡ Ok new
    → AreLayered ms start (m ∷ live) new
loaded runs preserve ms live m start old new s c a k fits h =
    let t : AreCertifiedTogether ms (m ∷ live) = newest ms live m start old s c k fits in
    let u = uses_by (m ∷ live) in
    let one = used_of ms (m ∷ live) t in
    let same : AreUsesButForUnused (uses_by live) u live = λ v. by_cases (first_or_none v (used_by_modules live))
    (λ f. inl (sym (one v (uses_by live v) (used_among_more v f))))
    (λ n. inr n) in
    let begin = with_newest live m start same s.begins a in
    let o = taken_up runs u start old live begin same (of_kind ms live s.together) (record { order = s.order; start_with_live = s.start_with_live }) in
    let r = preserve u start old new live (Loads m ∷ []) begin o.order o.start_with_live (all_fit ms (m ∷ live) u t one).1
    (newest_fits ms live m u t one, tt) (fits, (new, h, refl)) in
    record { together = t; begins = begin; order = r.0.order; start_with_live = r.0.start_with_live }
  where
    used_among_more : (v : Text) → IsAmong (v, uses_by live v) (used_by_modules live) → IsAmong (v, uses_by live v) (used_by_modules (m ∷ live))
    used_among_more v f = let p = user_of v (uses_by live v) live f in used_among v (uses_by live v) p.user (m ∷ live) (inr p.there) p.uses

-- An unload: the uses that only its module had are laid down after it.
unloaded : MovesPreserve → (ms : List Candidate) (live : List Module) (m : Module) (start old new : Environment) → AreLayered ms start live old
    → Undoes live m → Fits (Unloads m) old → moved (Unloads m) old ≡ Ok new → AreLayered ms start (without_live m.name live) new
unloaded preserve ms live m start old new s d fits h =
    let u = uses_by live in
    let one = used_of ms live s.together in
    let r = preserve u start old new live (Unloads m ∷ []) s.begins s.order s.start_with_live (all_fit ms live u s.together one) (d, tt) (fits, (new, h, refl)) in
    let t = less_together ms m.name live s.together in
    let less = without_live m.name live in
    let same : AreUsesButForUnused u (uses_by less) less = λ v. by_cases (first_or_none v (used_by_modules less))
    (λ f. inl (one v (uses_by less v) (less_used m.name v (uses_by less v) live f)))
    (λ n. inr n) in
    let o = laid_down u start new less s.begins same (of_kind ms less t) (record { order = r.0.order; start_with_live = r.0.start_with_live }) in
    record { together = t; begins = by_fewer u less start same s.begins; order = o.order; start_with_live = o.start_with_live }

layered : RunsReturn → MovesPreserve → (ms : List Candidate) (live : List Module) (moves : List Move) (start old new : Environment)
    → AreLayered ms start live old → AreCertified ms start live moves → MovesReach moves old new
    → AreLayered ms start (live_after live moves) new
layered runs preserve ms live [] start old new s c r = subst (AreLayered ms start live) (sym r) s
layered runs preserve ms live (Loads m ∷ moves) start old new s c r =
    layered runs preserve ms (m ∷ live) moves start r.1.0 new (loaded runs preserve ms live m start old r.1.0 s c.0 c.1 c.2 r.0 r.1.1) c.3 r.1.2
layered runs preserve ms live (Unloads m ∷ moves) start old new s c r =
    layered runs preserve ms (without_live m.name live) moves start r.1.0 new (unloaded preserve ms live m start old r.1.0 s c.0 r.0 r.1.1) c.1 r.1.2

pub moves_preserve : RunsReturn → MovesPreserve → CertifiedMovesPreserve
moves_preserve runs preserve ms start old new live moves s c r =
    let t = layered runs preserve ms live moves start old new s c r in
    (t, (held preserve ms (live_after live moves) start new t).returned)

-- runs from the start

reach_parts : (done rest : List Move) (old new : Environment) → MovesReach (done ++ rest) old new → (mid : Environment) × MovesReach done old mid × MovesReach rest mid new
reach_parts [] rest old new r = (old, refl, r)
reach_parts (m ∷ done) rest old new r = let p = reach_parts done rest r.1.0 new r.1.2 in (p.0, (r.0, (r.1.0, r.1.1, p.1)), p.2)

front : (ms : List Candidate) (live : List Module) (start : Environment) (done rest : List Move) → AreCertified ms start live (done ++ rest) → AreCertified ms start live done
front ms live start [] rest c = tt
front ms live start (Loads m ∷ done) rest c = (c.0, c.1, c.2, front ms (m ∷ live) start done rest c.3)
front ms live start (Unloads m ∷ done) rest c = (c.0, front ms (without_live m.name live) start done rest c.1)

pub none_is_layered : RunsReturn → NoneIsLayered
none_is_layered runs ms start o =
    let begin = is_start (uses_by []) start o (λ v f. tt) in
    let h = runs (uses_by []) start start [] begin tt refl in
    record { together = tt; begins = begin; order = h.order; start_with_live = h.start_with_live }

pub runs_stand : RunsReturn → MovesPreserve → CertifiedRunsStand
runs_stand runs preserve ms start e done rest o c r =
    let p = reach_parts done rest start e r in
    let s = layered runs preserve ms [] done start start p.0 (none_is_layered runs ms start o) (front ms [] start done rest c) p.1 in
    (p.0, p.1, p.2, held preserve ms (live_after [] done) start p.0 s)

-- a module that is loaded at the start

pub loaded_stay_loaded : LoadedStayLoaded
loaded_stay_loaded ms start e live m s fits xs l =
    not_at_start m.name xs live
    (subst (λ (zs : List Entry). has m.name (names_of zs) ≡ false) (same_Some fits.0 (entries_over xs live) (sym fits.1 ∙ s.start_with_live.entries xs l)) fits.2)

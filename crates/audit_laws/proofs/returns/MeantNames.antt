-- Which live module a name unloads.
use Rattle.std.proofs.Common.{◌≡◌, inl, inr, true, false, cond, List, [], ◌∷◌, Some, refl, ap, sym, ◌∙◌}
use Rattle.std.proofs.Common.{find, arith, nat_eq}
use Rattle.std.specs.Prelude.{bytes_eq}
use Rattle.std.proofs.lemmas.Bool.{false≢true, and_from}
use Rattle.std.proofs.lemmas.Bool.Decides.{nat_tests}
use Rattle.std.proofs.lemmas.List.{reverse-append}
use Rattle.modulename.specs.ModuleName.{means}
use Rattle.envvars.specs.Texts.{Text}
use Rattle.envvars.proofs.TextLemmas.{bytes_eq-same, same_text, or_left, or_right}
use Rattle.envstate.specs.loaded_list.Loaded.{Entry}
use Rattle.modulefile.specs.Moves.{Module, entry_of}
use Rattle.reversal.specs.Live.{entries_over}
use Rattle.reversal.specs.Runs.{live_named, without_live}
use Rattle.requests.specs.Steps.{last_meant}
use Rattle.audit_certificate.proofs.UsedLemmas.{by_test}
use Rattle.audit_laws.specs.returns.Unloads.{means_one, without_meant}
use Rattle.audit_laws.specs.returns.Laws.{NamesOfNoneAtStart}

pub means_itself : (n : Text) → means n n ≡ true
means_itself [] = refl
means_itself (c ∷ cs) = let one : nat_eq c c ≡ true = grind (arith, nat_tests) in and_from (nat_eq c c) (means cs cs) one (means_itself cs)

-- the newest module is meant, or the name means another
last_over : (name : Text) (first : List Entry) (m : Module) (live : List Module)
    → last_meant name (entries_over first (m ∷ live)) ≡ cond (means name m.name) (Some (entry_of m)) (last_meant name (entries_over first live))
last_over name first m live = ap (find (λ x. means name x.name)) (reverse-append (entries_over first live) (entry_of m ∷ []))

pub record IsMeant (name : Text) (first : List Entry) (live : List Module) : Type 0 where
  pub found_module : Module
  pub meant : means name found_module.name ≡ true
  pub newest : find (λ m. means name m.name) live ≡ Some found_module
  pub found : live_named found_module.name live ≡ Some found_module
  pub last : last_meant name (entries_over first live) ≡ Some (entry_of found_module)
  pub less : without_meant name live ≡ without_live found_module.name live

more_meant : (name : Text) (first : List Entry) (m : Module) (live : List Module) → means name m.name ≡ false → IsMeant name first live → IsMeant name first (m ∷ live)
more_meant name first m live f k =
    let other : bytes_eq k.found_module.name m.name ≡ false = by_test (bytes_eq k.found_module.name m.name) _
    (λ t. absurd (false≢true (sym f ∙ ap (means name) (sym (same_text k.found_module.name m.name t)) ∙ k.meant)))
    (λ g. g) in
    record {
      found_module = k.found_module;
      meant = k.meant;
      newest = rw f k.newest;
      found = rw other k.found;
      last = last_over name first m live ∙ rw f k.last;
      less = rw (f, other) (ap (λ (l : List Module). m ∷ l) k.less);
    }

pub is_meant : (name : Text) (first : List Entry) (live : List Module) → means_one name live ≡ true → IsMeant name first live
is_meant name first [] h = absurd (false≢true h)
is_meant name first (m ∷ live) h = by_test (means name m.name) _
    (λ t. record {
      found_module = m;
      meant = t;
      newest = rw t refl;
      found = rw (bytes_eq-same m.name) refl;
      last = last_over name first m live ∙ rw t refl;
      less = rw (t, bytes_eq-same m.name) refl;
    })
    (λ f. more_meant name first m live f (is_meant name first live (rw f at h)))

pub none_meant : (name : Text) (first : List Entry) (live : List Module) → means_one name live ≡ false
    → (last_meant name (entries_over first live) ≡ last_meant name first) × (without_meant name live ≡ live)
none_meant name first [] h = (refl, refl)
none_meant name first (m ∷ live) h =
    let f = or_left (means name m.name) (means_one name live) h in
    let k = none_meant name first live (or_right (means name m.name) (means_one name live) h) in
    (last_over name first m live ∙ rw f k.0, rw f (ap (λ (l : List Module). m ∷ l) k.1))

pub names_of_none_at_start : NamesOfNoneAtStart
names_of_none_at_start first [] live h = tt
names_of_none_at_start first (name ∷ names) live h =
    ((h name (inl refl)).0, inr (h name (inl refl)).1, names_of_none_at_start first names (without_meant name live) (λ n a. h n (inr a)))

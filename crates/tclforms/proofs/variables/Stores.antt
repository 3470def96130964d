-- What is written is read again, and written over.
use Rattle.std.proofs.Common.{◌≡◌, Bool, true, false, cond, [], ◌∷◌, Option, Some, None, Ok, Err, codes, refl, sym, ap}
use Rattle.std.proofs.Common.{◌∙◌}
use Rattle.std.specs.Str.{bytes_eq}
use Rattle.std.proofs.lemmas.Slice.Eq.{bytes_eq-Decides}
use Rattle.tcltext.specs.chars.Runs.{Text}
use Rattle.tclvalue.specs.operators.Faults.{Answer, ◌>>=◌, unsupported}
use Rattle.tclvalue.specs.Indexes.{after_prefix}
use Rattle.tclrules.specs.Variables.{Variables, State, Frame, Location, Scalar, Element, lookup, store, own_of}
use Rattle.tclrules.specs.Variables.{with_own, value_at, with_value, has_colons, unqualified, indexed}
use Rattle.tclrules.specs.Variables.{qualified_location, location_named, writable_scalar, writable, env, name_and_index}

same : (xs : Text) → bytes_eq xs xs ≡ true
same xs = (bytes_eq-Decides xs xs).1 refl

pub store_again : (vs : Variables) (name t u : Text) → store (store vs name t) name u ≡ store vs name u
store_again [] name t u = rw (same name) refl
store_again (v ∷ vs) name t u = go (bytes_eq name v.0) refl (store_again vs name t u)
  where
    go : (b : Bool) → bytes_eq name v.0 ≡ b → store (store vs name t) name u ≡ store vs name u
        → store (cond b ((v.0, t) ∷ vs) (v ∷ store vs name t)) name u ≡ cond b ((v.0, u) ∷ vs) (v ∷ store vs name u)
    go true e h = rw e refl
    go false e h = rw e (ap (λ r. v ∷ r) h)

pub lookup_store : (vs : Variables) (name t : Text) → lookup (store vs name t) name ≡ Some t
lookup_store [] name t = rw (same name) refl
lookup_store (v ∷ vs) name t = go (bytes_eq name v.0) refl (lookup_store vs name t)
  where
    go : (b : Bool) → bytes_eq name v.0 ≡ b → lookup (store vs name t) name ≡ Some t → lookup (cond b ((v.0, t) ∷ vs) (v ∷ store vs name t)) name ≡ Some t
    go true e h = rw e refl
    go false e h = rw e h

-- a variable that may be written is there once it is written

abbrev global_of : Location → Bool
global_of (Scalar g n) = g
global_of (Element g i) = g

indexed_at : (name : Text) (i : Option Text) (q : Location) → indexed true name i ≡ Ok q → global_of q ≡ true
indexed_at name None q h = let e : Scalar true name ≡ q = cc in sym (ap global_of e)
indexed_at name (Some i) q h = go (bytes_eq name env) h
  where
    go : (b : Bool) → cond b (Ok (Element true i)) (Err (unsupported (codes "array"))) ≡ Ok q → global_of q ≡ true
    go true h = let e : Element true i ≡ q = cc in sym (ap global_of e)
    go false h = cc

unqualified_at : (name : Text) (a : Answer Location) (q : Location) → unqualified name a ≡ Ok q → a ≡ Ok q
unqualified_at name a q h = go (has_colons name) h
  where
    go : (b : Bool) → cond b (Err (unsupported (codes "namespace"))) a ≡ Ok q → a ≡ Ok q
    go true h = cc
    go false h = h

led_at : (name : Text) (i r : Option Text) (q : Location) → qualified_location None name i r ≡ Ok q → global_of q ≡ true
led_at name i (Some rest) q h = indexed_at rest i q (unqualified_at rest _ q h)
led_at name i None q h = indexed_at name i q (unqualified_at name _ q h)

plain_at : (q : Location) (p : Bool × Text) → writable_scalar q ≡ Ok p → global_of q ≡ p.0
plain_at (Scalar g n) p h = go (bytes_eq n env) h
  where
    go : (b : Bool) → cond b (Err (unsupported env)) (Ok (g, n)) ≡ Ok p → g ≡ p.0
    go true h = cc
    go false h = let e : (g, n) ≡ p = cc in ap (λ x. x.0) e
plain_at (Element g i) p h = cc

bound : (a : Answer Location) (p : Bool × Text) → (a >>= writable_scalar) ≡ Ok p → (q : Location) × (a ≡ Ok q) × (writable_scalar q ≡ Ok p)
bound (Ok q) p h = (q, refl, h)
bound (Err e) p h = cc

own_written : (f : Option Frame) (name t : Text) → (f ≡ None → ⊥) → lookup (own_of (with_own f (store (own_of f) name t))) name ≡ Some t
own_written None name t h = absurd (h refl)
own_written (Some f) name t h = lookup_store f.own name t

led_outside : (f : Option Frame) (name : Text) (i r : Option Text) (q : Location) → f ≡ None → qualified_location f name i r ≡ Ok q → global_of q ≡ true
led_outside None name i r q e h = led_at name i r q h
led_outside (Some f) name i r q e h = cc

outside : (s : State) (v n : Text) → writable s v ≡ Ok (false, n) → s.frame ≡ None → ⊥
outside s v n h e =
    let b = bound (location_named s v) (false, n) h in
    let t : true ≡ false = sym (led_outside s.frame (name_and_index v).0 (name_and_index v).1 (after_prefix (codes "::") (name_and_index v).0) b.0 e b.1) ∙ plain_at b.0 (false, n) b.2 in
    cc

pub written : (s : State) (v : Text) (p : Bool × Text) (t : Text) → writable s v ≡ Ok p → value_at (with_value s p t) p ≡ Some t
written s v (true, n) t h = lookup_store s.globals n t
written s v (false, n) t h = own_written s.frame n t (outside s v n h)

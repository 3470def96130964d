-- One outcome, for relations that are put together.
use Rattle.std.proofs.Common.{◌≡◌, Bool, true, false, Result, Ok, Err, inl, inr, sym, ◌∙◌, subst}
use Rattle.filetree.specs.Relations.{Is, After, Then, If, Where, IsOne}

pub one_is : {A R : Type 0} (r : Result A R) → IsOne (Is r)
one_is r o p h k = h ∙ sym k

one_after : {A B R : Type 0} {Rest : A → Result B R → Type 0} → ((x : A) → IsOne (Rest x)) → (first : Result A R) → (o p : Result B R) → After Rest first o → After Rest first p → o ≡ p
one_after v (Ok x) o p a b = v x o p a b
one_after v (Err r) o p a b = a ∙ sym b

pub one_then : {A B R : Type 0} {First : Result A R → Type 0} {Rest : A → Result B R → Type 0} → IsOne First → ((x : A) → IsOne (Rest x)) → IsOne (Then First Rest)
one_then {Rest = Rest} u v o p h k =
    one_after {Rest = Rest} v h.0 o p h.2 (subst (λ r. After Rest r p) (u k.0 h.0 k.1 h.1) k.2)

pub one_if : {A R : Type 0} {Yes No : Result A R → Type 0} (test : Bool) → IsOne Yes → IsOne No → IsOne (If test Yes No)
one_if true u v o p h k = u o p h k
one_if false u v o p h k = v o p h k

pub one_where : {A R : Type 0} {Fact : Type 0} {Yes No : Result A R → Type 0} → IsOne Yes → IsOne No → IsOne (Where Fact Yes No)
one_where u v o p (inl h) (inl k) = u o p h.1 k.1
one_where u v o p (inl h) (inr k) = absurd (k.0 h.0)
one_where u v o p (inr h) (inl k) = absurd (h.0 k.0)
one_where u v o p (inr h) (inr k) = v o p h.1 k.1

-- The order of versions is total.
use Rattle.std.proofs.Common.{◌≡◌, true, Ordering, Less, Equal, Greater, nat_cmp, is_le, refl, ◌∙◌, subst}
use Rattle.std.specs.Cmp.{IsTotalOrder}
use Rattle.std.specs.Ordering.{ordering_then, ordering_reverse, on}
use Rattle.std.specs.Cmp.Lexicographic.{slice_cmp}
use Rattle.std.proofs.lemmas.Cmp.{then_total, on_total, lists_total, nat_cmp_total, nat_list_cmp_total}
use Rattle.std.proofs.lemmas.Map.Lookups.{exact_bytes}
use Rattle.modulename.specs.ModuleName.{Text}
use Rattle.modulename.specs.Versions.{pieces, rank, number, piece_order, version_order, IsGreatest, HasOneGreatest}

pub total : IsTotalOrder version_order
total = then_total (on_total pieces (lists_total (then_total (on_total rank nat_cmp_total) (on_total number nat_cmp_total)))) nat_list_cmp_total

second : (o p : Ordering) → ordering_then o p ≡ Equal → p ≡ Equal
second Less p e = absurd (cc)
second Equal p e = e
second Greater p e = absurd (cc)

pub equal : (v w : Text) → version_order v w ≡ Equal → v ≡ w
equal v w e = exact_bytes v w (second (on pieces (slice_cmp piece_order) v w) (slice_cmp nat_cmp v w) e)

tied : (o : Ordering) → is_le o ≡ true → is_le (ordering_reverse o) ≡ true → ordering_reverse o ≡ Equal
tied Less h k = absurd (cc)
tied Equal h k = refl
tied Greater h k = absurd (cc)

pub one_greatest : (In : Text → Type 0) (v w : Text) → IsGreatest In v → IsGreatest In w → v ≡ w
one_greatest In v w g h =
    let e : version_order v w ≡ ordering_reverse (version_order w v) = total.antisymm v w in
    let k : is_le (ordering_reverse (version_order w v)) ≡ true = subst (λ o. is_le o ≡ true) e (h.last v g.member) in
    equal v w (e ∙ tied (version_order w v) (g.last w h.member) k)

pub has_one_greatest : HasOneGreatest
has_one_greatest is_in v w g h = one_greatest (λ x. is_in x ≡ true) v w g h

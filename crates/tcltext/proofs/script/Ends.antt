-- Ends of texts.
use Rattle.std.proofs.Common.{◌≡◌, ℕ, ◌<◌, ◌≤◌, ◌-◌, take, drop, append-nil, ap₂, [], ◌∷◌, ◌++◌, length, refl, sym, ap}
use Rattle.std.proofs.Common.{subst, ◌∙◌, arith, append_assoc, length-append}
use Rattle.tcltext.specs.chars.Runs.{Text}
use Rattle.std.specs.Str.{IsUtf8, IsCharBoundary}
use Rattle.std.proofs.lemmas.Str.{IsCharBoundary-at_seam, IsCharBoundary-from_take}
use Rattle.std.proofs.Math.Seq.{take-append_seam, drop-append_seam}
use Rattle.tcltext.specs.script.Pieces.{IsSuffixOf, IsPrefixOf}

pub end_same : (bs : Text) → IsSuffixOf bs bs
end_same bs = ([], refl)

pub end_behind : (b : ℕ) (bs rest : Text) → IsSuffixOf bs rest → IsSuffixOf (b ∷ bs) rest
end_behind b bs rest e = (b ∷ e.0, ap (λ xs. b ∷ xs) e.1)

pub end_through : (bs xs ys : Text) → IsSuffixOf bs xs → IsSuffixOf xs ys → IsSuffixOf bs ys
end_through bs xs ys e f = (e.0 ++ f.0, e.1 ∙ ap (λ zs. e.0 ++ zs) f.1 ∙ sym (append_assoc e.0 f.0 ys))

pub end_no_longer : (bs rest : Text) → IsSuffixOf bs rest → length rest ≤ length bs
end_no_longer bs rest e = omega (arith, ap length e.1, length-append e.0 rest)

-- a shorter end
abbrev pub IsBehind : Text → Text → Type 0
IsBehind bs rest = IsSuffixOf bs rest × (length rest < length bs)

pub behind_mark : (bs : Text) (mark : ℕ) (xs rest : Text) → bs ≡ mark ∷ xs → IsSuffixOf xs rest → IsBehind bs rest
behind_mark bs mark xs rest is e =
    let less : length rest ≤ length xs = end_no_longer xs rest e in
    let more : length bs ≡ length (mark ∷ xs) = ap length is in
    (subst (λ ys. IsSuffixOf ys rest) (sym is) (end_behind mark xs rest e), omega arith)

pub behind_through : (bs xs ys : Text) → IsBehind bs xs → IsSuffixOf xs ys → IsBehind bs ys
behind_through bs xs ys b e =
    let less : length ys ≤ length xs = end_no_longer xs ys e in
    let more : length xs < length bs = b.1 in
    (end_through bs xs ys b.0 e, omega arith)

pub end_mark : (bs : Text) (mark : ℕ) (rest : Text) → bs ≡ mark ∷ rest → IsSuffixOf bs rest
end_mark bs mark rest is = (mark ∷ [], is)

pub whole_same : (bs : Text) → IsPrefixOf bs bs
whole_same bs = ([], sym (append-nil bs))

-- how long what stands before an end is
pub end_length : (bs rest : Text) (e : IsSuffixOf bs rest) → length bs - length rest ≡ length e.0
end_length bs rest e = omega (arith, ap length e.1, length-append e.0 rest)

pub end_cut : (bs rest : Text) → IsUtf8 rest → IsSuffixOf bs rest → IsCharBoundary bs (length bs - length rest)
end_cut bs rest u e = subst (λ (n : ℕ). IsCharBoundary bs n) (sym (end_length bs rest e)) (IsCharBoundary-at_seam bs e.0 rest e.1 u)

pub end_drop : (bs rest : Text) → IsSuffixOf bs rest → drop (length bs - length rest) bs ≡ rest
end_drop bs rest e = ap₂ (λ (n : ℕ) (xs : Text). drop n xs) (end_length bs rest e) e.1 ∙ drop-append_seam e.0 rest

pub front_take : (bs piece : Text) → IsPrefixOf bs piece → take (length piece) bs ≡ piece
front_take bs piece f = ap (take (length piece)) f.1 ∙ take-append_seam piece f.0

pub front_cut : (bs piece : Text) → IsUtf8 bs → IsUtf8 piece → IsPrefixOf bs piece → IsCharBoundary bs (length piece)
front_cut bs piece u v f = IsCharBoundary-from_take bs (length piece) u (omega (arith, ap length f.1, length-append piece f.0)) (subst IsUtf8 (sym (front_take bs piece f)) v)

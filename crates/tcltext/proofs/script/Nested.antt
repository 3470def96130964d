-- Brackets and indexes, a level down.
use Rattle.std.proofs.Common.{◌≡◌, ℕ, zero, suc, ◌-◌, ◌<◌, length, true, Ok, sym, ap, ◌∙◌, arith}
use Rattle.tcltext.specs.chars.Runs.{Text}
use Rattle.tcltext.specs.declared.chars.fault.Fault.TheVariants.{OpenBracket, BadCharacter}
use Rattle.tcltext.specs.declared.chars.fault.ReadError.{ReadError}
use Rattle.tcltext.specs.declared.chars.fault.ReadError.TheVariants as errors
use Rattle.tcltext.specs.chars.Reading.{Fails, ◌>>=◌}
use Rattle.tcltext.specs.declared.script.context.Context.TheVariants.{InIndex}
use Rattle.tcltext.specs.script.Tree.{Commands, Parts, bracket}
use Rattle.tcltext.specs.script.Reading.{after_closing, bracket_at, index_at, parts_with, script_with, inner_at}

pub inner-script : (d : ℕ) (bs : Text) → 0 < d → (inner_at d).script bs ≡ script_with true (inner_at (d - 1)) bs
unfolding inner_at
inner-script zero bs h = absurd (omega arith)
inner-script (suc d) bs h = let e : suc d - 1 ≡ d = omega arith in ap (λ n. script_with true (inner_at n) bs) (sym e)

pub inner-index : (d : ℕ) (bs : Text) → 0 < d → (inner_at d).index bs ≡ parts_with InIndex (inner_at (d - 1)) bs
unfolding inner_at
inner-index zero bs h = absurd (omega arith)
inner-index (suc d) bs h = let e : suc d - 1 ≡ d = omega arith in ap (λ n. parts_with InIndex (inner_at n) bs) (sym e)

pub bracket-read : (d remaining : ℕ) (bs : Text) (s : Commands) (close rest : Text) → 0 < d
    → remaining ≡ suc (length bs) → script_with true (inner_at (d - 1)) bs ≡ Ok (s, close)
    → after_closing 93 (OpenBracket remaining) close ≡ Ok rest
    → bracket_at (inner_at d) bs ≡ Ok (bracket s, rest)
unfolding bracket_at
bracket-read d remaining bs s close rest h is was end =
    ap (λ r. r >>= (λ x. after_closing 93 (OpenBracket (suc (length bs))) x.1 >>= (λ rest. Ok (bracket x.0, rest)))) (inner-script d bs h ∙ was)
    ∙ ap (λ n. after_closing 93 (OpenBracket n) close >>= (λ rest. Ok (bracket s, rest))) (sym is)
    ∙ ap (λ r. r >>= (λ rest. Ok (bracket s, rest))) end

index-on : (d remaining : ℕ) (bs : Text) (ps : Parts) (close : Text) → 0 < d → remaining ≡ suc (length bs) → parts_with InIndex (inner_at (d - 1)) bs ≡ Ok (ps, close)
    → index_at (inner_at d) bs ≡ (after_closing 41 (BadCharacter remaining) close >>= (λ rest. Ok (ps, rest)))
unfolding index_at
index-on d remaining bs ps close h is was =
    ap (λ r. r >>= (λ x. after_closing 41 (BadCharacter (suc (length bs))) x.1 >>= (λ rest. Ok (x.0, rest)))) (inner-index d bs h ∙ was)
    ∙ ap (λ n. after_closing 41 (BadCharacter n) close >>= (λ rest. Ok (ps, rest))) (sym is)

pub index-read : (d remaining : ℕ) (bs : Text) (ps : Parts) (close rest : Text) → 0 < d → remaining ≡ suc (length bs)
    → parts_with InIndex (inner_at (d - 1)) bs ≡ Ok (ps, close)
    → after_closing 41 (BadCharacter remaining) close ≡ Ok rest
    → index_at (inner_at d) bs ≡ Ok (ps, rest)
index-read d remaining bs ps close rest h is was end = index-on d remaining bs ps close h is was ∙ ap (λ r. r >>= (λ rest. Ok (ps, rest))) end

pub index-fails : (d remaining : ℕ) (bs : Text) (ps : Parts) (close : Text) (e : ReadError) → 0 < d
    → remaining ≡ suc (length bs) → parts_with InIndex (inner_at (d - 1)) bs ≡ Ok (ps, close)
    → Fails e (after_closing 41 (BadCharacter remaining) close)
    → Fails e (index_at (inner_at d) bs)
index-fails d remaining bs ps close errors.Memory h is was end = tt
index-fails d remaining bs ps close (errors.Fault f) h is was end = index-on d remaining bs ps close h is was ∙ ap (λ r. r >>= (λ rest. Ok (ps, rest))) end

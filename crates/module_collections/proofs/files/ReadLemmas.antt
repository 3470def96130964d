-- Files that are read whole by their first bytes.
use Rattle.std.proofs.Common.{◌≡◌, ℕ, ◌+◌, ◌<◌, ◌≤◌, length, take, sym, ap, ◌∙◌, arith}
use Rattle.std.proofs.lemmas.List.{length-take, take_all}
use Rattle.envvars.specs.Texts.{Text}
use Rattle.module_collections.specs.files.Entries.{file}

-- where one byte more was asked for than there are, these are all
pub whole : (n : ℕ) (all text : Text) → n ≡ length text + 1 → take n all ≡ text → all ≡ text
whole n all text l e =
    let k : length (take n all) ≡ length text = ap length e in
    let short : length all ≤ n = omega (arith, length-take n all, k, l) in
    sym (take_all n all short) ∙ e

pub whole_again : (n : ℕ) (all text : Text) → n ≡ length text + 1 → all ≡ text → take n all ≡ text
whole_again n all text l e =
    let k : length all ≡ length text = ap length e in
    let short : length all ≤ n = omega (arith, k, l) in
    take_all n all short ∙ e

pub same_file : (a b : Text) → file a ≡ file b → a ≡ b
same_file a b e = cc

pub whole_if_short : (n : ℕ) (all text : Text) → take (n + 1) all ≡ text → length text ≤ n → all ≡ text
whole_if_short n all text e l =
    let k : length (take (n + 1) all) ≡ length text = ap length e in
    let short : length all ≤ n + 1 = omega (arith, length-take (n + 1) all, k, l) in
    sym (take_all (n + 1) all short) ∙ e

pub longer : (n : ℕ) (all text : Text) → take (n + 1) all ≡ text → n < length text → n < length all
longer n all text e l =
    let k : length (take (n + 1) all) ≡ length text = ap length e in
    omega (arith, length-take (n + 1) all, k, l)

use Rattle.std.proofs.Common.{◌≡◌, ◌+◌, length, refl, sym, ap, ◌∙◌}
use Rattle.std.proofs.lemmas.Slice.Eq.{bytes_eq-Decides}
use Rattle.module_collections.specs.files.Entries.{file}
use Rattle.module_collections.proofs.files.ReadLemmas.{same_file, whole, whole_again}
use Rattle.module_collections.proofs.files.save.holds.Goals as goal

pub returns-clause-answer : goal.returns-clause-answer
returns-clause-answer g c = λ entries b.
    let r = c.in_ok-bytes.ensures.answer entries b in
    let most = length c.args.text.now + 1 in
    let seen = bytes_eq-Decides c.as_slice.result.now c.as_bytes.result.now in (
      λ t.
          let same : c.as_slice.result.now ≡ c.as_bytes.result.now = seen.0 (sym c.eq.ensures ∙ t) in
          let e : c.in_ok-bytes.bytes.items ≡ c.args.text.now = sym c.as_slice.ensures.value ∙ (same ∙ c.as_bytes.ensures.value) in
          r.1 ∙ ap file (whole most r.0 c.args.text.now refl (sym r.2 ∙ e)),
      λ k.
          let all : r.0 ≡ c.args.text.now = same_file r.0 c.args.text.now (sym r.1 ∙ k) in
          let e : c.in_ok-bytes.bytes.items ≡ c.args.text.now = r.2 ∙ whole_again most r.0 c.args.text.now refl all in
          c.eq.ensures ∙ seen.1 (c.as_slice.ensures.value ∙ (e ∙ sym c.as_bytes.ensures.value)),
    )

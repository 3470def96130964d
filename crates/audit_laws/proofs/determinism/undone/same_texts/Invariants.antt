use Rattle.std.proofs.Common.{◌≡◌, map, length, string_bytes}
use Rattle.std.specs.Prelude.{bytes_eq}
use Rattle.std.specs.Iterator.Adapters.{zip_first, zip_second}
use Rattle.std.specs.Slice.Iter.{iter_rest}
use Rattle.audit_laws.specs.determinism.Contexts.{same_by}
use Rattle.audit_laws.proofs.determinism.undone.same_texts.Given as goal

-- the rests are as both are
abbrev pub invariant-loop-text : goal.invariant-loop-text
invariant-loop-text l = record {
  same : same_by bytes_eq (map string_bytes (iter_rest (zip_first l.text-iterator))) (map string_bytes (iter_rest (zip_second l.text-iterator)))
      ≡ same_by bytes_eq (map string_bytes l.one) (map string_bytes l.other);
  long : length (iter_rest (zip_first l.text-iterator)) ≡ length (iter_rest (zip_second l.text-iterator));
}
